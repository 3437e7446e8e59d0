use Rattle.std.proofs.Common.{◌≤◌, ◌∙◌, Err, List, ap, length, refl}
use Rattle.cube_defs.specs.Text.{Text}
use Rattle.cube_defs.specs.declared.limits.TheConstants.{MAX_FILE}
use Rattle.reply_text.specs.Replies.{refused_text}
use Rattle.qc_session.specs.Stops.{kind_in}
use Rattle.qc_session.proofs.Costs.{long-within, short-within}
use Rattle.qc_session.proofs.Named.{file-answered, long-answered, never-told, numbers-stay, of_name, records-stay}
use Rattle.qc_session.proofs.answer.answer_file.Goals as goal

pub returns-in-Ok-file_reply : goal.returns-in-Ok-file_reply
returns-in-Ok-file_reply g c =
    let told = g.F.Files.told c.args.files.now in
    let kind = c.args.line.kind in
    let name = c.args.line.name in
    let state = c.args.pinned.now.now.state in
    let read = c.in-Ok.ensures in
    let e = c.in-Ok-file_reply.ensures in
    let taken = c.deref.result.now in
    let bytes = c.in-Ok.bytes.items in
    let short : length taken ≤ MAX_FILE = rw c.deref.ensures.value read.within in
    record {
      stay = record { later = read.later; told = read.told; steady = read.steady };
      same = tt;
      fault = tt;
      untold = tt;
      answered = file-answered told name c.as_str.result.now bytes taken c.args.pinned.now c.file_reply.new.pinned kind
          c.args.number c.in-Ok-file_reply.reply c.as_str.ensures.value read.bytes c.deref.ensures.value short e.pins e.ok;
      tried = e.tried;
      numbers = of_name told name c.as_str.result.now bytes taken _ c.as_str.ensures.value read.bytes c.deref.ensures.value
          e.numbers;
      apart = of_name told name c.as_str.result.now bytes taken _ c.as_str.ensures.value read.bytes c.deref.ensures.value
          e.apart;
      steps = of_name told name c.as_str.result.now bytes taken _ c.as_str.ensures.value read.bytes c.deref.ensures.value
          (short-within (kind_in kind) state taken c.args.steps.now c.file_reply.new.steps short e.steps);
    }

pub returns-in-Ok : goal.returns-in-Ok
returns-in-Ok g c =
    let told = g.F.Files.told c.args.files.now in
    let name = c.args.line.name in
    let read = c.in-Ok.ensures in
    let e = c.in-Err.ensures in
    let taken = c.deref.result.now in
    let bytes = c.in-Ok.bytes.items in
    record {
      stay = record { later = read.later; told = read.told; steady = read.steady };
      same = e.same;
      fault = tt;
      untold = tt;
      answered = tt;
      tried = e.tried;
      numbers = of_name told name c.as_str.result.now bytes taken _ c.as_str.ensures.value read.bytes c.deref.ensures.value
          e.numbers;
      apart = of_name told name c.as_str.result.now bytes taken _ c.as_str.ensures.value read.bytes c.deref.ensures.value
          e.apart;
      steps = tt;
    }

pub returns-in-Err-TooLong : goal.returns-in-Err-TooLong
returns-in-Err-TooLong g c =
    let told = g.F.Files.told c.args.files.now in
    let name = c.args.line.name in
    let kind = c.args.line.kind in
    let held = c.args.pinned.now in
    let read = c.in-Err-TooLong.ensures in
    let long = read.too_long (ap Err c.in-Err-TooLong.field-0-is) in
    record {
      stay = record { later = read.later; told = read.told; steady = read.steady };
      same = tt;
      fault = tt;
      untold = tt;
      answered = long-answered told name c.as_str.result.now held kind c.args.number c.refused.result c.as_str.ensures.value
          long (c.refused.ensures
          ∙ ap (λ (texts : List Text). refused_text c.args.number texts) c.size_refusal.ensures.texts);
      tried = λ is. refl;
      numbers = numbers-stay told name kind held.now;
      apart = records-stay told name kind held.now;
      steps = long-within told name c.as_str.result.now (kind_in kind) held.now.state c.args.steps.now
          c.as_str.ensures.value long;
    }

pub returns-in-Err-Failed : goal.returns-in-Err-Failed
returns-in-Err-Failed g c =
    let told = g.F.Files.told c.args.files.now in
    let name = c.args.line.name in
    let kind = c.args.line.kind in
    let held = c.args.pinned.now in
    let read = c.in-Err-Failed.ensures in
    let failed = ap Err c.in-Err-Failed.field-0-is in
    record {
      stay = record { later = read.later; told = read.told; steady = read.steady };
      same = refl;
      fault = (refl, read.failed failed);
      untold = λ steady.
          never-told told name c.as_str.result.now _ c.as_str.ensures.value failed (read.sure steady);
      answered = tt;
      tried = λ is. refl;
      numbers = numbers-stay told name kind held.now;
      apart = records-stay told name kind held.now;
      steps = tt;
    }

pub returns : goal.returns
returns g c =
    let told = g.F.Files.told c.args.files.now in
    let name = c.args.line.name in
    let kind = c.args.line.kind in
    let held = c.args.pinned.now in
    let read = c.in-Err-Memory.ensures in
    record {
      stay = record { later = read.later; told = read.told; steady = read.steady };
      same = refl;
      fault = tt;
      untold = tt;
      answered = tt;
      tried = λ is. refl;
      numbers = numbers-stay told name kind held.now;
      apart = records-stay told name kind held.now;
      steps = tt;
    }
