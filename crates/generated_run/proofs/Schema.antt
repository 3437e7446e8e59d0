-- The schema's text spells the layout.
use Rattle.std.proofs.Common.{◌≡◌, refl}
use Rattle.std.specs.Prelude.{Ok, codes}
use Rattle.std.specs.Str.{is_utf8, chars}
use Rattle.text_lines.specs.Cuts.{words_of}
use Rattle.qc_schema.specs.Grammar.{dim_line, id_line, index_line, kind_of, measure_line, named_line, read_lines, schema_in, take_line}
use Rattle.qc_schema.specs.Grammar.{version_line}
use Rattle.row_generator.specs.Drawn.{layout}

pub spelt : schema_in (codes "qcube 1\nid id\ndim a\ndim b\ndim c\ndim d\ndim e\nmeasure amount 2\nindex sum amount\n")
    ≡ Ok layout
unfolding dim_line id_line index_line kind_of measure_line named_line read_lines take_line version_line is_utf8 chars
    words_of lib.Utf8.encode
spelt = refl
