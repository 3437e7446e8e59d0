use Rattle.text_lines.proofs.Records.{stepped}
use Rattle.text_lines.proofs.record_reader.read_record.Goals as goal

pub returns : goal.returns
returns c = stepped _ _ c.in-Ok.found _ c.requires (c.in-Ok.ensures.reads c.requires.trim c.requires.ready)
    c.in-Ok.ensures.reads_on
