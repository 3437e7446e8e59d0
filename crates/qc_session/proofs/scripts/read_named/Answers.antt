use Rattle.std.proofs.Common.{Err, ap, refl}
use Rattle.qc_session.proofs.Started.{script-read, unread-name}
use Rattle.qc_session.proofs.scripts.read_named.Goals as goal

pub returns-in-Ok : goal.returns-in-Ok
returns-in-Ok g c =
    let e = c.in-Ok.ensures in
    record {
      stay = record { later = e.later; told = e.told; steady = e.steady };
      ok = script-read (g.F.Files.told c.args.files.now) _ _ e.bytes e.within;
      short = e.within;
      open_file = e.open_file;
      err = tt;
    }

pub returns-in-Err-Failed : goal.returns-in-Err-Failed
returns-in-Err-Failed g c =
    let e = c.in-Err-Failed.ensures in
    let failed = ap Err c.in-Err-Failed.field-0-is in
    record {
      stay = record { later = e.later; told = e.told; steady = e.steady };
      ok = tt;
      short = tt;
      open_file = e.open_file;
      err = (refl, e.failed failed, unread-name (g.F.Files.told c.args.files.now) _ _ _ failed e.sure);
    }
