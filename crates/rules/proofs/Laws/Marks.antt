-- Rules 10 and 11: where none of the records that a drain wrote says overflow, each frame drained has raised the generation by one.
use Rattle.std.specs.Prelude.{if◌then◌else◌, ◌==◌}
use mathlib.Core.Path.{◌≡◌, refl, sym, ap, ◌∙◌, subst}
use mathlib.Core.Logic.{◌≢◌}
use mathlib.Core.Bool.{Bool, true, false}
use mathlib.Core.List.{List, [], ◌∷◌, ◌++◌, append_assoc}
use Prim.Native.Nat.{ℕ, zero, suc, ◌+◌, ◌*◌, ◌-◌, ◌≤◌}
use native.Mathlib.Omega.{arith}
use lib.ListN.{length, get_or, length-append}
use Rattle.rules.specs.declared.Key.{Key}
use Rattle.rules.specs.declared.Rest.{Rest}
use Rattle.rules.specs.declared.Rest.TheVariants.{GoesOn, Last}
use Rattle.rules.specs.Notation.{steps, flat}
use Rattle.rules.specs.Tables.{last_generation, cell, next_of, State, with_shared, size_at, count_of, class_of, bytes_of, total_of}
use Rattle.rules.specs.Slots.{free_element, free_shared, raised, raise, overflows}
use Rattle.rules.specs.Runs.{counted, unlinked, left, removed, rest_of}
use Rattle.rules.specs.Drains.{record_width, rest_fields, drain_record, drain_records, drained, lowest, all_records}
use Rattle.rules.specs.History.{History, frames, run_of, runs_but, taking_out}
use Rattle.rules.proofs.Laws.Steps.{steps_add}
use Rattle.rules.proofs.Laws.Working.{view}
use Rattle.rules.proofs.Laws.Fronted.{same_length, same_runs}
use Rattle.rules.proofs.Laws.Rep.{key_at}
use Rattle.rules.proofs.Laws.Good.{Good, key_fronted, size-from}
use Rattle.rules.proofs.Laws.Histories.Drain.{good-run, lowest-key}

-- a generation that is not the last rises by one
pub rises : (g : ℕ) → (g == last_generation) ≡ false → raised g ≡ g + 1
unfolding raised
rises g e = rw e refl

either_way : (p q : State) (b : Bool) (g : ℕ) → p.head.generation ≡ g → q.head.generation ≡ g → (let r : State = if b then p else q in r.head.generation) ≡ g
either_way p q true g e f = e
either_way p q false g e f = f

left-generation : (st : State) (c z : ℕ) → (left st c z).head.generation ≡ st.head.generation
unfolding left free_shared
left-generation st c z = either_way (free_shared st c) (with_shared st (counted st.shared c (count_of st.shared c - 1) (total_of st.shared c - z))) (count_of st.shared c == 1) st.head.generation refl refl

removed-generation : (st : State) (x : ℕ) → (removed st x).head.generation ≡ raised st.head.generation
unfolding removed raise free_element unlinked
removed-generation st x = ap raised (left-generation (free_element (unlinked st x) x) (class_of st.elems x) (bytes_of st.elems x))

-- `n` records, none of which says overflow
abbrev pub Silent : ℕ → List ℕ → Type 0
Silent n t = (i : ℕ) → 1 ≤ i → i ≤ n → cell record_width t 5 i ≢ 1

-- the record in front, and those behind it
module _ (a b c m : ℕ) (more : List ℕ) where
  mark-first : (r : Rest) → cell record_width ((a ∷ b ∷ c ∷ rest_fields r ++ m ∷ []) ++ more) 5 1 ≡ m
  unfolding cell
  mark-first GoesOn = refl
  mark-first (Last value) = refl

  mark-next : (r : Rest) (i : ℕ) → 1 ≤ i → cell record_width ((a ∷ b ∷ c ∷ rest_fields r ++ m ∷ []) ++ more) 5 (suc i) ≡ cell record_width more 5 i
  unfolding cell
  mark-next r zero h = absurd (omega arith)
  mark-next r (suc i) h = let e : suc i * record_width + 5 ≡ suc (suc (suc (suc (suc (suc (i * record_width + 5)))))) = omega arith in ap (λ (p : ℕ). get_or ((a ∷ b ∷ c ∷ rest_fields r ++ m ∷ []) ++ more) p 0) e ∙ behind r
    where
      behind : (r : Rest) → get_or ((a ∷ b ∷ c ∷ rest_fields r ++ m ∷ []) ++ more) (suc (suc (suc (suc (suc (suc (i * record_width + 5))))))) 0 ≡ get_or more (i * record_width + 5) 0
      behind GoesOn = refl
      behind (Last value) = refl

told_none : (b : Bool) → (let mark : ℕ = if b then 1 else 0 in mark) ≢ 1 → b ≡ false
told_none true e = absurd (e refl)
told_none false e = refl

-- one record more
silent_first : (st : State) (x n : ℕ) (more : List ℕ) → Silent (suc n) (drain_record st x ++ more) → overflows st ≡ false
silent_first st x n more s = told_none (overflows st) (λ e. s 1 (omega arith) (omega arith) (mark-first _ _ _ _ more (rest_of st x) ∙ e))

silent_next : (st : State) (x n : ℕ) (more : List ℕ) → Silent (suc n) (drain_record st x ++ more) → Silent n more
silent_next st x n more s i l h e = s (suc i) (omega arith) (omega arith) (mark-next _ _ _ _ more (rest_of st x) i l ∙ e)

-- Rules 10, drain a run, with more records behind
pub drain_rises : (n : ℕ) (st : State) (x : ℕ) (more : List ℕ) → Silent n (drain_records n st x ++ more) → steps raised n st.head.generation ≡ st.head.generation + n
unfolding drain_records overflows
drain_rises zero st x more s = omega arith
drain_rises (suc n) st x more s =
    let g = st.head.generation in
    let s' : Silent (suc n) (drain_record st x ++ (drain_records n (removed st x) (next_of st.elems x) ++ more)) = rw append_assoc at s in
    let e : raised g ≡ g + 1 = rises g (silent_first st x n _ s') in
    let r = drain_rises n (removed st x) (next_of st.elems x) more (silent_next st x n _ s') in
    ap (λ (i : ℕ). steps raised n i) (sym (removed-generation st x)) ∙ r ∙ omega (arith, removed-generation st x, e)

pub drain_more : (n m : ℕ) (st : State) (x : ℕ) (more : List ℕ) → Silent (n + m) (drain_records n st x ++ more) → Silent m more
unfolding drain_records
drain_more zero m st x more s = λ i l h. s i l (omega arith)
drain_more (suc n) m st x more s =
    let s' : Silent (suc (n + m)) (drain_record st x ++ (drain_records n (removed st x) (next_of st.elems x) ++ more)) = λ i l h. (rw append_assoc at s) i l (omega arith) in
    drain_more n m (removed st x) (next_of st.elems x) more (silent_next st x (n + m) _ s')

-- Rules 11, all runs
pub all_rises : (n : ℕ) (st : State) (h : History) → Good st h → length h.runs ≡ n → (more : List ℕ) → Silent (frames h) (all_records n st ++ more) → steps raised (frames h) h.generation ≡ h.generation + frames h
unfolding all_records
all_rises zero st h G e more s = none h.runs refl
  where
    none : (rs : List (List Key)) → h.runs ≡ rs → steps raised (frames h) h.generation ≡ h.generation + frames h
    none [] q = rw q (omega arith)
    none (r ∷ rs) q = absurd (omega (arith, ap length q))
all_rises (suc n) st h G e more s =
    let x = lowest st in
    let k = key_at (view st) x in
    let l = lowest-key st h G n e in
    let m = size_at st x in
    let f = length (flat (runs_but k h.runs)) in
    let g = h.generation in
    let z : frames h ≡ m + f = same_length (key_fronted st h G k l) ∙ length-append (run_of k h.runs) (flat (runs_but k h.runs)) ∙ ap (λ (i : ℕ). i + f) (size-from st h G k l) in
    let s' : Silent (m + f) (drain_records m st x ++ (all_records n (drained m st x) ++ more)) = λ i i1 i2. (rw append_assoc at s) i i1 (omega (arith, z)) in
    let a : steps raised m g ≡ g + m = subst (λ (i : ℕ). steps raised m i ≡ i + m) G.generation (drain_rises m st x _ (λ i i1 i2. s' i i1 (omega arith))) in
    let h' = taking_out h m m (runs_but k h.runs) in
    let G' : Good (drained m st x) h' = subst (λ (i : ℕ). Good (drained m st x) (taking_out h i i (runs_but k h.runs))) (size-from st h G k l) (good-run st h G k l) in
    let r = all_rises n (drained m st x) h' G' (omega (arith, same_runs (key_fronted st h G k l))) more (drain_more m f st x _ s') in
    ap (λ (i : ℕ). steps raised i g) z ∙ steps_add raised m f g ∙ r ∙ omega (arith, a, z)
