-- How the files of the words are read.
use Rattle.std.specs.Prelude.{◌≡◌, ◌≤◌, ◌<◌, ℕ, Bool, Option, IsTrue}
use Rattle.std.specs.declared.sync.ledger.Blank.{Blank}
use Rattle.qc_io.specs.Outside.{FileContents}

-- files after calls: their faults only rise, they tell the same, and they stay steady
pub record FilesStay (faults_before faults_after : ℕ) (told_before told_after : Option FileContents)
    (steady_before steady_after : Bool) : Type 0 where
  pub later : faults_before ≤ faults_after
  pub told : told_after ≡ told_before
  pub steady : IsTrue steady_before → IsTrue steady_after

-- a blank for the ledger of this name, which has so many parts
pub record IsBlankOf (name parts : ℕ) (blank : Blank) : Type 0 where
  pub is_named : blank.name ≡ name
  pub is_cut : blank.parts ≡ parts
  pub some : 0 < parts
