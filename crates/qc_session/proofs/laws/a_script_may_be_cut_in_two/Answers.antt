use Rattle.qc_session.proofs.CutScripts.{cut-in-two}
use Rattle.qc_session.proofs.laws.a_script_may_be_cut_in_two.Goals as goal

pub returns : goal.returns
returns c told start middle end first second replies took = cut-in-two told start middle end first second replies took
