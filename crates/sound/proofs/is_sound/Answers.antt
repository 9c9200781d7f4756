use Rattle.sound.proofs.Turns.{work}
use Rattle.sound.proofs.Whole.{working-found, must_headers, must_shared, must_elems}
use Rattle.pools.proofs.Ask.{if_yes, if_no, settle}
use Rattle.rules.proofs.Laws.Soundness.{shaped_of, sound_of_working}
use Rattle.rules.specs.Sound.{Sound}
use Rattle.rules.specs.Tables.{state_of}
use native.Mathlib.Omega.{arith}
use Rattle.sound.proofs.is_sound.Goals as goal
use Rattle.sound.proofs.is_sound.Goals.{then-not-contains-via-then-not-contains, then-not-contains-via-else-not-contains+then-not-pool_ok, then-not-contains-via-else-not-contains+else-not-pool_ok+then-not-pool_ok-2, then-not-contains-via-else-not-contains+else-not-pool_ok+else-not-pool_ok-2+then-not-headers_ok}

pub pool_ok-requires : goal.pool_ok-requires
pool_ok-requires c = let h = (shaped_of _ c.requires).shared in (record { most = h.small; long = h.long }, omega arith, omega arith)

pub pool_ok-requires-else-not-pool_ok : goal.pool_ok-requires-else-not-pool_ok
pool_ok-requires-else-not-pool_ok c = let h = (shaped_of _ c.requires).elems in (record { most = h.small; long = h.long }, omega arith, omega arith)

pub headers_ok-requires : goal.headers_ok-requires
headers_ok-requires c = let h = (shaped_of _ c.requires).shared in let k = if_yes c.pool_ok.result c.if-not-pool_ok.false c.pool_ok.ensures in omega (arith, h.long, k.extent)

pub returns-then-not-contains : goal.returns-then-not-contains
returns-then-not-contains c = λ S.
    let st = state_of c.args.head c.args.elems.now c.args.shared.now in
    elim c.then-not-contains.branch [
      | then-not-contains-via-then-not-contains w ↦ grind (arith, S.generation.0, S.generation.1)
      | then-not-contains-via-else-not-contains+then-not-pool_ok w ↦ if_no w.pool_ok.result w.if-not-pool_ok.true w.pool_ok.ensures (must_shared st (work st c.requires S))
      | then-not-contains-via-else-not-contains+else-not-pool_ok+then-not-pool_ok-2 w ↦ if_no w.pool_ok-else-not-pool_ok.result w.if-not-pool_ok-2.true w.pool_ok-else-not-pool_ok.ensures (must_elems st (work st c.requires S))
      | then-not-contains-via-else-not-contains+else-not-pool_ok+else-not-pool_ok-2+then-not-headers_ok w ↦ if_no w.headers_ok.result w.if-not-headers_ok.true w.headers_ok.ensures (must_headers st (work st c.requires S))
    ]

pub rings_ok-requires : goal.rings_ok-requires
rings_ok-requires c =
    let h = shaped_of _ c.requires in
    let k = if_yes c.pool_ok.result c.if-not-pool_ok.false c.pool_ok.ensures in
    let l = if_yes c.pool_ok-else-not-pool_ok.result c.if-not-pool_ok-2.false c.pool_ok-else-not-pool_ok.ensures in
    (record { shape = c.requires; elems = omega (arith, h.elems.long, l.extent); shared = omega (arith, h.shared.long, k.extent); few = omega (arith, h.elems.small, l.extent) }, omega (arith, h.shared.small, k.extent))

pub returns : goal.returns
returns c =
    let st = state_of c.args.head c.args.elems.now c.args.shared.now in
    settle {P = Sound st} c.rings_ok.result
    (λ z. sound_of_working st (working-found st (record {
      least = grind arith;
      most = grind arith;
      elems = if_yes c.pool_ok-else-not-pool_ok.result c.if-not-pool_ok-2.false c.pool_ok-else-not-pool_ok.ensures;
      shared = if_yes c.pool_ok.result c.if-not-pool_ok.false c.pool_ok.ensures;
      headers = if_yes c.headers_ok.result c.if-not-headers_ok.false c.headers_ok.ensures;
      scanned = z;
    })))
    (λ p. p)
    c.rings_ok.ensures
