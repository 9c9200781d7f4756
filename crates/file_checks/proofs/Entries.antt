-- One body against its entry: each way out of its check is what the rules read there.
use Rattle.std.specs.Prelude.{None, Some}
use Prim.Native.Nat.{ℕ, ◌+◌}
use mathlib.Core.Path.{◌≡◌, refl, sym, ap, ◌∙◌}
use mathlib.Core.List.{List}
use native.Mathlib.Omega.{arith}
use borrow.Author.Tests.{eq-eqb, ne_eqb}
use lib.ListN.{drop}
use lib.Seq.{drop-drop}
use Rattle.rules.specs.Bytes.{Got, unread, got, value}
use Rattle.rules.specs.RunFile.{StoredRun, Entry, body_length, body}
use Rattle.rules.proofs.Laws.Fixed.{entry_here}
use Rattle.file_checks.specs.declared.Body.{Body}
use Rattle.file_checks.specs.Said.{said_body, said_run}

module _ (v at : ℕ) (e : Entry) where
  run_none : (g : Got StoredRun) → said_body v at g ≡ None → None ≡ said_run v at e g
  run_none unread q = refl
  run_none (got r rest) q = cc

  run_off : (g : Got StoredRun) (x : Body) → said_body v at g ≡ Some x → (e.offset ≡ at → ⊥) → None ≡ said_run v at e g
  run_off unread x q f = cc
  run_off (got r rest) x q f = rw (ne_eqb e.offset at f)

  run_long : (g : Got StoredRun) (x : Body) → said_body v at g ≡ Some x → e.offset ≡ at → (e.offset + e.long ≡ x.end → ⊥) → None ≡ said_run v at e g
  run_long unread x q o f = cc
  run_long (got r rest) x q o f =
      let p : at + body_length v r ≡ x.end = cc in
      rw (eq-eqb e.offset at o, ne_eqb e.long (body_length v r) (λ l. f (ap (λ (k : ℕ). k + e.long) o ∙ ap (λ (k : ℕ). at + k) l ∙ p)))

  run_fits : (g : Got StoredRun) (x : Body) → said_body v at g ≡ Some x → e.offset ≡ at → e.offset + e.long ≡ x.end → Some x ≡ said_run v at e g
  run_fits unread x q o l = cc
  run_fits (got r rest) x q o l =
      let p : at + body_length v r ≡ x.end = cc in
      let m : e.long ≡ body_length v r = omega arith in
      rw (eq-eqb e.offset at o, eq-eqb e.long (body_length v r) m) (sym q)

-- the same by the numbers that were read
module _ (v at entry : ℕ) (b : List ℕ) where
  pub entry_none : None ≡ said_body v at (body v (drop at b)) → None ≡ said_run v at (entry_here (drop entry b)) (body v (drop at b))
  entry_none q = run_none v at (entry_here (drop entry b)) (body v (drop at b)) (sym q)

  module _ (o l : ℕ) (eo : o ≡ value 4 (drop entry b)) (el : l ≡ value 4 (drop (entry + 4) b)) (x : Body) (q : Some x ≡ said_body v at (body v (drop at b))) where
    offset-here : (entry_here (drop entry b)).offset ≡ o
    unfolding entry_here
    offset-here = sym eo

    long-here : (entry_here (drop entry b)).long ≡ l
    unfolding entry_here
    long-here = rw (drop-drop 4 entry b) (sym el)

    pub entry_off : (o ≡ at → ⊥) → None ≡ said_run v at (entry_here (drop entry b)) (body v (drop at b))
    entry_off f = run_off v at (entry_here (drop entry b)) (body v (drop at b)) x (sym q) (λ p. f (sym offset-here ∙ p))

    pub entry_long : o ≡ at → (o + l ≡ x.end → ⊥) → None ≡ said_run v at (entry_here (drop entry b)) (body v (drop at b))
    entry_long p f = run_long v at (entry_here (drop entry b)) (body v (drop at b)) x (sym q) (offset-here ∙ p) (λ r. f (omega (arith, offset-here, long-here, r)))

    pub entry_fits : o ≡ at → o + l ≡ x.end → Some x ≡ said_run v at (entry_here (drop entry b)) (body v (drop at b))
    entry_fits p r = run_fits v at (entry_here (drop entry b)) (body v (drop at b)) x (sym q) (offset-here ∙ p) (omega (arith, offset-here, long-here, r))
