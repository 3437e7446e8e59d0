use Rattle.std.proofs.Common.{refl}
use Rattle.query_script.proofs.Wanting.{if_refused}
use Rattle.query_script.proofs.line.read_command.Goals as goal

pub returns-in-widen : goal.returns-in-widen
returns-in-widen c = rw c.in-widen.is
    (record { gives = c.read_widen.ensures; memory = if_refused c.read_widen.result _ _ refl })

pub returns-in-pin : goal.returns-in-pin
returns-in-pin c = rw c.in-pin.is
    (record { gives = c.read_pin.ensures; memory = if_refused c.read_pin.result _ _ refl })

pub returns-in-unpin : goal.returns-in-unpin
returns-in-unpin c = rw c.in-unpin.is
    (record { gives = c.read_unpin.ensures; memory = if_refused c.read_unpin.result _ _ refl })

pub returns-in-at : goal.returns-in-at
returns-in-at c = rw c.in-at.is (record { gives = c.read_at.ensures; memory = if_refused c.read_at.result _ _ refl })
