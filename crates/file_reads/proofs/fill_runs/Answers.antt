use native.Mathlib.Omega.{arith}
use mathlib.Core.Path.{◌∙◌}
use Rattle.file_reads.proofs.Reading.{comes, run_room, run-slots, run_rows, reading_next, reading_last}
use Rattle.file_reads.proofs.fill_runs.Goals as goal

pub get8-value-requires : goal.get8-value-requires
get8-value-requires c = let C = comes c.loop-k.invariant (omega (arith, c.loop-k-test.true, c.requires.1)) in omega (arith, run_room C)

pub get8-total-requires : goal.get8-total-requires
get8-total-requires c = let C = comes c.loop-k.invariant (omega (arith, c.loop-k-test.true, c.requires.1)) in omega (arith, run_room C)

pub get4-count-requires : goal.get4-count-requires
get4-count-requires c = let C = comes c.loop-k.invariant (omega (arith, c.loop-k-test.true, c.requires.1)) in omega (arith, run_room C)

pub fill_frames-requires : goal.fill_frames-requires
fill_frames-requires c = let C = comes c.loop-k.invariant (omega (arith, c.loop-k-test.true, c.requires.1)) in let n = c.get4-count.ensures.0 ∙ C.reading.standing.0.count in (omega (arith, run_room C, n), omega (arith, run-slots C, n), omega (arith, run_rows C, n))

pub loop-k-preserved : goal.loop-k-preserved
loop-k-preserved c = reading_next (comes c.loop-k.invariant (omega (arith, c.loop-k-test.true, c.requires.1))) _ _ _ _ _ c.get8-value.ensures c.get8-total.ensures c.get4-count.ensures.0 c.write_header.ensures c.fill_frames.ensures

pub returns : goal.returns
returns c = reading_last c.loop-k.invariant (omega (arith, c.loop-k-test.false, c.requires.1))
