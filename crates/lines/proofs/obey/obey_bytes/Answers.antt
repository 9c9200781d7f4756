-- `lines::obey::obey_bytes` meets its contract.
use Rattle.told.proofs.Puts.{put_then}
use Rattle.rules.specs.Tables.{state_of}
use native.Mathlib.Omega.{arith}
use Rattle.lines.proofs.obey.obey_bytes.Goals as goal

pub returns : goal.returns
returns c =
    let o = c.obey_line-obeyed.ensures in
    rw (c.read_line-read.ensures (state_of c.args.head c.args.elems.now c.args.shared.now))
    (record { same = o.same; ready = o.ready; put = put_then o.put c.put_text-next.ensures; within = omega (arith, o.within, c.put_text-next.ensures.past) })
