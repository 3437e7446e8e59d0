use Rattle.std.proofs.Common.{◌≡◌, ◌≤◌, ◌∙◌, ℕ, List, length, Some, IfSome, refl, sym, subst}
use Rattle.std.specs.Prelude.{Option}
use Rattle.cube_defs.specs.declared.limits.TheConstants.{MAX_FILE}
use Rattle.warehouse.specs.State.{IsState, State}
use Rattle.cube_snapshot.specs.States.{spelling}
use Rattle.cube_snapshot.proofs.CallerLemmas.{one-state}
use Rattle.qc_session.specs.Forms.{FromSnapshot, Source}
use Rattle.qc_session.specs.Runs.{Begins, IsStartOf}
use Rattle.qc_session.proofs.laws.a_snapshot_opens_where_its_script_ended.Goals as goal

same : {A : Type 0} {x y : A} → Some x ≡ Some y → x ≡ y
same e = cc

pub returns : goal.returns
returns c told told2 names names2 end bytes packed is from is_told start = (there, back)
  where
    wrote : bytes ≡ spelling packed.holds.state
    wrote = same packed.holds.wrote

    is_state : IsState packed.holds.state
    is_state = subst (λ (o : Option State). IfSome o IsState) packed.holds.ended is

    there : IsStartOf told2 names2 start → end ≡ Some start
    there s =
        let begins : Begins FromSnapshot s.bytes start = subst (λ (o : Source). Begins o s.bytes start) from s.begins in
        let read : s.bytes ≡ bytes = same (sym s.is_told ∙ is_told) in
        let one : packed.holds.state ≡ start
        = one-state packed.holds.state start is_state begins.1 (sym wrote ∙ sym read ∙ begins.0) in
        packed.holds.ended ∙ rw one refl

    back : end ≡ Some start → IsStartOf told2 names2 start
    back e =
        let one : packed.holds.state ≡ start = same (sym packed.holds.ended ∙ e) in
        record {
          bytes = bytes;
          is_told = is_told;
          within = subst (λ (xs : List ℕ). length xs ≤ MAX_FILE) (sym wrote) packed.holds.fits;
          begins = subst (λ (o : Source). Begins o bytes start) (sym from)
              (wrote ∙ rw one refl, subst IsState one is_state);
        }
