-- What a reader has read so far, and what its refusals name.
use Rattle.std.specs.Prelude.{ℕ, map, Option, Some, None, string_bytes}
use Rattle.qc_schema.specs.Schema.{Layout, Measure}
use Rattle.qc_schema.specs.declared.draft.Measure as declared
use Rattle.qc_schema.specs.declared.draft.Draft.{Draft}
use Rattle.qc_schema.specs.declared.reader.SchemaReader.{SchemaReader}
use Rattle.qc_schema.specs.declared.reader.LastLine.{LastLine}
use Rattle.qc_schema.specs.declared.refusal.SchemaCause.{SchemaCause}
use Rattle.qc_schema.specs.declared.refusal.SchemaRefused.{SchemaRefused}
use Rattle.qc_schema.specs.declared.refusal.SchemaRefused.TheVariants as refusals
use Rattle.qc_schema.specs.declared.refusal.SchemaLineRefused.{SchemaLineRefused}
use Rattle.qc_schema.specs.declared.refusal.SchemaLineRefused.TheVariants as faults

-- the kind of the last line, and what the lines so far say
pub record Progress : Type 0 where
  pub stage : LastLine
  pub layout : Layout

abbrev pub measure_in : declared.Measure → Measure
measure_in m = record { name = string_bytes m.name; scale = m.scale }

abbrev pub layout_in : Draft → Layout
layout_in d = record {
  version = d.version;
  id = string_bytes d.id;
  dims = map string_bytes d.dims.items;
  measures = map measure_in d.measures.items;
  indexes = d.indexes.items;
  nodes = d.nodes;
  rows = d.rows;
  values = d.values;
}

abbrev pub progress_in : SchemaReader → Progress
progress_in r = record { stage = r.stage; layout = layout_in r.draft }

-- the cause that a refusal of a line names; want of memory is none
abbrev pub cause_in : SchemaLineRefused → Option SchemaCause
cause_in faults.Memory = None
cause_in (faults.Cause cause) = Some cause

-- why a text is no schema: the first line outside the grammar, counted from 1, with the first cause that holds
pub data Fault : Type 0 where
  NotUtf8 : Fault
  Line : ℕ → SchemaCause → Fault

-- why the text is refused where its line with this number is
abbrev pub refused_at : ℕ → SchemaLineRefused → SchemaRefused
refused_at line faults.Memory = refusals.Memory
refused_at line (faults.Cause cause) = refusals.Line line cause

-- the fault that the refusal of a text names; want of memory is none
abbrev pub schema_fault_in : SchemaRefused → Option Fault
schema_fault_in refusals.Memory = None
schema_fault_in refusals.NotUtf8 = Some NotUtf8
schema_fault_in (refusals.Line line cause) = Some (Line line cause)
