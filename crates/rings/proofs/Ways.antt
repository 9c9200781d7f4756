-- A call that writes a place for each frame of a run, by its three ways.
use Rattle.std.specs.Prelude.{if◌then◌else◌}
use Prim.Native.Nat.{ℕ, suc, ◌*◌, ◌≤◌, ◌<◌}
use mathlib.Core.Path.{◌≡◌}
use mathlib.Core.Bool.{false}
use mathlib.Core.List.{List, [], ◌∷◌}
use native.Mathlib.Omega.{arith}
use borrow.Author.Tests.{le-leb, lt-leb}
use lib.ListN.{length}
use lib.Seq.{sets}
use Rattle.rules.specs.declared.Key.{Key}
use Rattle.std.specs.Prelude.{Ok, Err}
use Rattle.rules.specs.declared.Cause.{Cause}
use Rattle.rules.specs.declared.Refusal.TheVariants.{Dead, Short}
use Rattle.rules.specs.Tables.{State, found, size_at}
use Rattle.rules.specs.Refusals.{Ruling, outcome, said_accepted, refuse, accept, with_live}
use Rattle.rules.specs.Drains.{is_short}
use Rattle.rings.proofs.Written.{written_all}

module _ (st : State) (lent : List ℕ) (k : Key) (width : ℕ) (next : ℕ → State) (places : ℕ → List ℕ) where
  abbrev pub run_written : Ruling
  run_written = with_live st k λ x. if is_short lent (size_at st x) width then refuse Short else accept (size_at st x ∷ []) false (next x) (places x)

  pub written_3 : {cause : Cause} → found st k ≡ Err cause → outcome st lent (refuse (Dead cause)) ≡ outcome st lent run_written
  written_3 p = simp p

  pub written_7 : (x : ℕ) → found st k ≡ Ok x → length lent < size_at st x * width → outcome st lent (refuse Short) ≡ outcome st lent run_written
  written_7 x p l = simp (p, le-leb _ _ l)

  pub written-done : (x : ℕ) (s : State) (out : List ℕ) → found st k ≡ Ok x → size_at st x * width ≤ length lent → length (places x) ≡ size_at st x * width
      → s ≡ next x → out ≡ sets lent 0 (places x) → record { said = said_accepted (size_at st x ∷ []) false; state = s; lent = out } ≡ outcome st lent run_written
  written-done x s out p l long e f =
      let fits : size_at st x * width < suc (length lent) = omega arith in
      simp (p, lt-leb _ _ fits) (rw (e, f, written_all (places x) lent (omega arith)))
