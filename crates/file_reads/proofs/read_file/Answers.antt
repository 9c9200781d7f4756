use native.Mathlib.Omega.{arith}
use mathlib.Core.Path.{sym, ◌∙◌}
use Rattle.file_reads.proofs.Call.{buildable}
use Rattle.file_reads.proofs.read_file.Goals as goal

pub build-next-requires : goal.build-next-requires
build-next-requires c = buildable _ c.args.file.now (c.is_shaped.ensures ∙ c.if-not-is_shaped.false) (omega (arith, c.if-file-lt8.false)) (sym c.get4.ensures.0 ∙ c.if-get4-ne-VERSION.false) _ (sym c.in_ok-counts.ensures.ok_part ∙ c.check_runs.ensures) c.if-head-counts.false c.if-head-counts-2.false
