use Rattle.batch_insert.proofs.insert.insert_row.Goals as goal

pub insert-requires : goal.insert-requires
insert-requires g c = record {
  opened = c.requires.opened;
  no_any = c.requires.no_any;
  width = c.requires.width;
  amounts = record { few = c.requires.few; small = c.requires.small };
  tree = c.requires.tree;
}
