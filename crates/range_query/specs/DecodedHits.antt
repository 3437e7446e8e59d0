-- Hits, and hits with the texts of their codes.
use Rattle.std.specs.Prelude.{◌≡◌, ℕ, List, length, map}
use Rattle.std.specs.Ordering.{nat_cmp, eq_by_cmp}
use Rattle.cube_defs.specs.Text.{Text, text_cmp}
use Rattle.cube_defs.specs.Cell.{Cell}
use Rattle.cube_defs.specs.Rows.{agg}
use Rattle.cube_defs.specs.Answers as answers
use Rattle.aggregates.specs.Views.{agg_in}
use Rattle.tree_search.specs.Found.{TreeRows}
use Rattle.value_dict.specs.Boxes.{decoded_box}
use Rattle.value_dict.specs.Recoded.{decoded_row_list}
use Rattle.value_dict.specs.Decoded.{HasTexts, decoded_cell}
use Rattle.range_query.specs.Work.{work}
use Rattle.range_query.specs.declared.hit.Hit.{Hit}

-- a hit of codes
abbrev pub hit_in : Hit → answers.Hit ℕ
hit_in hit = record { cell = hit.cell; agg = agg_in hit.agg }

-- a hit with the texts of its codes
abbrev pub decoded_hit : List (List Text) → answers.Hit ℕ → answers.Hit Text
decoded_hit lists hit = record { cell = decoded_cell lists hit.cell; agg = hit.agg }

abbrev pub decoded_hits : List (List Text) → List Hit → List (answers.Hit Text)
decoded_hits lists hits = map (λ hit. decoded_hit lists (hit_in hit)) hits

-- the answer to a range query, and what it takes, by the texts of the codes
abbrev pub decoded_range : List (List Text) → TreeRows → answers.Box ℕ → List (answers.Hit Text)
decoded_range lists source cells
    = answers.range text_cmp source.measures (decoded_row_list lists source.rows) (decoded_box lists cells)

abbrev pub decoded_work : List (List Text) → TreeRows → answers.Box ℕ → ℕ
decoded_work lists source cells = work text_cmp (decoded_row_list lists source.rows) (decoded_box lists cells)

-- a hit that can be told: its codes have texts, and it has a part for each measure
pub record IsDecodableHit (lists : List (List Text)) (measures : ℕ) (hit : answers.Hit ℕ) : Type 0 where
  pub texts : HasTexts lists hit.cell
  pub parts : length hit.agg.parts ≡ measures

-- a cell with what its rows come to
abbrev pub hit_at : TreeRows → Cell ℕ → answers.Hit ℕ
hit_at source c = record { cell = c; agg = agg (eq_by_cmp nat_cmp) source.measures source.rows c }
