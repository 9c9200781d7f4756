-- The worked study's runs are read back from its file, as is claimed of every sound state; and the numbers that rest on a file's holding one list of runs.
use Rattle.std.specs.Prelude.{if◌then◌else◌}
use Prim.Native.Nat.{ℕ, zero, suc, ◌≤◌, ◌<◌}
use native.Mathlib.Omega.{arith}
use mathlib.Core.Path.{◌≡◌, refl, ap}
use mathlib.Core.Logic.{inl, inr}
use mathlib.Core.Bool.{Bool, true, false, true≢false, false≢true}
use mathlib.Core.List.{List, [], ◌∷◌}
use lib.Dec.{lit<, lit≤}
use lib.ListN.{length, get_or}
use Rattle.rules.specs.Notation.{◌<?◌, every}
use Rattle.rules.specs.Refusals.{outcome}
use Rattle.rules.specs.Calls.{Is}
use Rattle.rules.specs.Bytes.{limit, Bytes}
use Rattle.rules.specs.RunFile.{StoredRun, frame_count}
use Rattle.rules.specs.WriteFile.{bytes_in}
use Rattle.rules.specs.ReadFile.{read_file, read_step}
use Rattle.rules.specs.Filing.{Stores, ReadGives, Words, compressed_into, Unsealed}
use Rattle.rules.specs.Demand.{from_read}
use Rattle.rules.specs.Stale.{Since, filed, first}
use Rattle.rules.proofs.Cases.{rules, key}
use Rattle.rules.proofs.CasesCopied.{study, dirty}
use Rattle.rules.proofs.CasesFile.{files, study_file, study_runs}
use Rattle.rules.proofs.RefutedFile.{study_stores}
use Rattle.rules.proofs.WitnessCopied.{study_ready}
use Rattle.rules.proofs.Laws.Tests.{le_is}
use Rattle.rules.proofs.Laws.FileFits.{words}
use Rattle.rules.proofs.Laws.Filing.{filing}

-- numbers below a bound, by computation
below : (n : ℕ) → 1 ≤ n → (t : List ℕ) → every (λ x. x <? n) t ≡ true → (i : ℕ) → get_or t i 0 < n
below n o [] e i = o
below n o (x ∷ t) e i = go (x <? n) (le_is (suc x) n) e i (below n o t)
  where
    go : (b : Bool) → Is (suc x ≤ n) b → (if b then every (λ x. x <? n) t else false) ≡ true → (i : ℕ) → (every (λ x. x <? n) t ≡ true → (i : ℕ) → get_or t i 0 < n) → get_or (x ∷ t) i 0 < n
    go true l e zero f = l
    go true l e (suc i) f = f e i
    go false l e i f = absurd (false≢true e)

pub study_words : Words study
study_words = words study (below (limit 8) (lit≤ tt) study.elems refl) (below (limit 8) (lit≤ tt) study.shared refl)

-- into tables with exactly its room
abbrev old : List ℕ
old = 1 ∷ []

pub study_back : ((outcome (dirty 3 2) [] (read_file old (dirty 3 2) (bytes_in 1 study))).said.number ≡ 0) × Unsealed (compressed_into (dirty 3 2) study) (outcome (dirty 3 2) [] (read_file old (dirty 3 2) (bytes_in 1 study))).state
unfolding rules
study_back = filing.back old 1 (inl refl) (lit< tt) study study_ready study_words (dirty 3 2) refl (lit≤ tt) (lit≤ tt)

-- a key that the read gave
bytes_of : (b : List ℕ) → every (λ x. x <? 256) b ≡ true → Bytes b
bytes_of [] e = tt
bytes_of (x ∷ b) e = go (x <? 256) (le_is (suc x) 256) e (bytes_of b)
  where
    go : (t : Bool) → Is (suc x ≤ 256) t → (if t then every (λ x. x <? 256) b else false) ≡ true → (every (λ x. x <? 256) b ≡ true → Bytes b) → (x < 256) × Bytes b
    go true l e f = (l, f e)
    go false l e f = absurd (false≢true e)

pub study_bytes : Bytes study_file
study_bytes = bytes_of study_file refl

pub key-filed : (e : (read_step (dirty 3 2) study_file).said.number ≡ 0) → Since (key 2 1) (from_read (dirty 3 2) study_file study_bytes e)
unfolding rules files
key-filed e = filed (first (dirty 3 2) study_file study_bytes e) refl

-- ---- 5 and none, where 6 is not given: the file holds no other runs
only : (rs : List StoredRun) → Stores study_file rs → rs ≡ study_runs
only rs s = filing.once study_file rs study_runs s study_stores

module _ (n : ℕ) where
  pub then_five : ReadGives old (dirty 2 2) study_file n → n ≡ 5
  unfolding rules files
  then_five (inl (h, q)) = absurd (true≢false h)
  then_five (inr (h, inl (l, q))) = absurd (omega (arith, l))
  then_five (inr (h, inr (l, inl (u, q)))) = absurd (u (inl refl))
  then_five (inr (h, inr (l, inr (u, inl (d, q))))) = absurd (d study_runs study_stores)
  then_five (inr (h, inr (l, inr (u, inr (d, inl (m, q)))))) = absurd (omega (arith, m.2, ap length (only m.0 m.1)))
  then_five (inr (h, inr (l, inr (u, inr (d, inr (m, inl (f, q))))))) = q
  then_five (inr (h, inr (l, inr (u, inr (d, inr (m, inr (f, q))))))) = absurd (f (study_runs, study_stores, lit< tt))

  pub then_accepted : ReadGives old (dirty 3 2) study_file n → n ≡ 0
  unfolding rules files
  then_accepted (inl (h, q)) = absurd (true≢false h)
  then_accepted (inr (h, inl (l, q))) = absurd (omega (arith, l))
  then_accepted (inr (h, inr (l, inl (u, q)))) = absurd (u (inl refl))
  then_accepted (inr (h, inr (l, inr (u, inl (d, q))))) = absurd (d study_runs study_stores)
  then_accepted (inr (h, inr (l, inr (u, inr (d, inl (m, q)))))) = absurd (omega (arith, m.2, ap length (only m.0 m.1)))
  then_accepted (inr (h, inr (l, inr (u, inr (d, inr (m, inl (f, q))))))) = absurd (omega (arith, f.2, ap frame_count (only f.0 f.1)))
  then_accepted (inr (h, inr (l, inr (u, inr (d, inr (m, inr (f, q))))))) = q
