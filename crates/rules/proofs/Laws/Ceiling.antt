-- Ticket 9, proved: all rewrites together are at most the figure for the frames put in.
use Rattle.std.specs.Prelude.{if◌then◌else◌, ◌==◌}
use mathlib.Core.Path.{◌≡◌, refl, sym, ap, ◌∙◌, subst}
use mathlib.Core.Logic.{◌≢◌}
use mathlib.Core.Bool.{Bool, true, false}
use mathlib.Core.List.{List, [], ◌∷◌, ◌++◌}
use Prim.Native.Nat.{ℕ, suc, ◌+◌, ◌≤◌}
use native.Mathlib.Nat.{le_trans}
use native.Mathlib.Numerals.{add-one}
use native.Mathlib.Omega.{arith}
use lib.ListN.{length, length-append}
use Rattle.rules.specs.declared.Key.{Key}
use Rattle.rules.specs.declared.Refusal.{Refusal}
use Rattle.rules.specs.declared.Refusal.TheVariants.{SameClass, NoElement, NoShared, Sealed}
use Rattle.rules.specs.Notation.{◌<?◌, flat}
use Rattle.rules.specs.Tables.{class_of, State, size_at, is_sealed}
use Rattle.rules.specs.Refusals.{Ruling, refuse, Said, Outcome, outcome}
use Rattle.rules.specs.Slots.{is_full}
use Rattle.rules.specs.Runs
use Rattle.rules.specs.Runs.{new_key}
use Rattle.rules.specs.Calls.{Call, new_run, insert, union, ruling}
use Rattle.rules.specs.History.{History, frames, others_of, run_of, inserted_runs, joined_runs, joining, putting_in, accepted, noted}
use Rattle.rules.specs.Demand.{Sequence}
use Rattle.rules.specs.Ceiling
use Rattle.rules.specs.Ceiling.{ceiling, Building, begins, inserts, joins, Aside, rewritten, Built, begin, call, aside, Ceiling}
use Rattle.rules.proofs.Laws.Tests.{eq_is, le_is, is_false, is_so, is-not}
use Rattle.rules.proofs.Laws.Working.{view}
use Rattle.rules.proofs.Laws.Safe.{working}
use Rattle.rules.proofs.Laws.Fronted.{Same, same, turn, swap, under, via}
use Rattle.rules.proofs.Laws.Rep.{LiveKey}
use Rattle.rules.proofs.Laws.Good.{Good, live_of, key_fronted, size-from}
use Rattle.rules.proofs.Laws.Rulings.{by_test, by_key}
use Rattle.rules.proofs.Laws.Histories.Union.{both_fronted}
use Rattle.rules.proofs.Laws.DemandThree.{not-accepted, at-door, after-good, after_recalls}
use Rattle.rules.proofs.Laws.HighestBit.{ties, ceiling-sum, ceiling-join}

-- what the runs may have cost, each the figure for its frames
spent : List (List Key) → ℕ
spent [] = 0
spent (r ∷ rs) = ceiling (length r) + spent rs

same_spent : {h g : List (List Key)} → Same h g → spent h ≡ spent g
unfolding spent
same_spent same = refl
same_spent (turn {h = h} p k q) = let e : length (p ++ k ∷ q) ≡ length (k ∷ (q ++ p)) = simp length-append (omega arith) in ap (λ (n : ℕ). ceiling n + spent h) e
same_spent (swap {r = r} {s = s} {h = h}) = omega arith
same_spent (under {r = r} {h = h} {g = g} s) = ap (λ (n : ℕ). ceiling (length r) + n) (same_spent s)
same_spent (via s u) = same_spent s ∙ same_spent u

spent_most : (rs : List (List Key)) → spent rs ≤ ceiling (length (flat rs))
unfolding spent
spent_most [] = omega arith
spent_most (r ∷ rs) = rw (length-append r (flat rs)) (omega (arith, spent_most rs, ceiling-sum (length r) (length (flat rs))))

module _ (st : State) (lent : List ℕ) (h : History) (G : Good st h) where
  -- no frame goes out, and what a call rewrote is spent
  record Paid (h' : History) (n : ℕ) : Type 0 where
    none : h'.taken ≡ h.taken
    paid : spent h.runs + n ≤ spent h'.runs

  abbrev Pays : Call → Ruling → Type 0
  Pays c r = (outcome st lent r).said.number ≡ 0 → Paid (noted h c (outcome st lent r).said) (rewritten (outcome st lent r).said)

  refused : (c : Call) (r : Refusal) → Pays c (refuse r)
  refused c r e = absurd (not-accepted r e)

  begun_pays : (size : ℕ) → Paid (putting_in h (new_key st) size ((new_key st ∷ []) ∷ h.runs)) 0
  unfolding spent
  begun_pays size = record { none = refl; paid = omega arith }

  inserted_pays : (k : Key) (size : ℕ) → LiveKey (view st) k → Paid (putting_in h (new_key st) size (inserted_runs k (new_key st) h.runs)) 0
  unfolding spent inserted_runs
  inserted_pays k size l =
      let n = length (run_of k h.runs) in
      let g : ceiling n ≤ ceiling (suc n) = subst (λ (m : ℕ). ceiling n ≤ ceiling m) (add-one n) (le_trans (omega arith) (ceiling-sum n 1)) in
      record { none = refl; paid = omega (arith, same_spent (key_fronted st h G k l), g) }

  -- the smaller run is rewritten
  joined_pays : (j k : Key) → LiveKey (view st) j → LiveKey (view st) k → class_of st.elems j.slot ≢ class_of st.elems k.slot → (n : ℕ)
      → ((a b : ℕ) → a ≡ size_at st j.slot → b ≡ size_at st k.slot → 1 ≤ a → 1 ≤ b → ceiling b + ceiling a + n ≤ ceiling (a + b))
      → Paid (joining h (joined_runs j k h.runs)) n
  unfolding spent joined_runs
  joined_pays j k lj lk differ n f =
      let xs = others_of j h.runs in
      let ys = others_of k h.runs in
      let e = same_spent (both_fronted (view st) (working st G.ready) j k lj lk differ h.runs G.rings) in
      let m : length (j ∷ (ys ++ k ∷ xs)) ≡ length (j ∷ xs) + length (k ∷ ys) = simp length-append (omega arith) in
      let c = f (length (j ∷ xs)) (length (k ∷ ys)) (size-from st h G j lj) (size-from st h G k lk) (omega arith) (omega arith) in
      record { none = refl; paid = rw m (omega (arith, e, c)) }

  union_pays : (j k : Key) → Pays (union j k) (Runs.union st j k)
  unfolding Runs.union Runs.keeping
  union_pays j k =
      let P = Pays (union j k) in
      by_key P (refused (union j k)) st j _ (λ ej. by_key P (refused (union j k)) st k _ (λ ek.
      let cj = class_of st.elems j.slot in
      let ck = class_of st.elems k.slot in
      let sj = size_at st j.slot in
      let sk = size_at st k.slot in
      by_test P (cj == ck) _ _ (λ e. refused (union j k) SameClass) (λ e.
      let n : cj ≢ ck = is-not (cj ≡ ck) (cj == ck) (eq_is cj ck) e in
      let pays = joined_pays j k (live_of st j ej) (live_of st k ek) n in
      by_test P (is_sealed st j.slot) _ _ (λ s. refused (union j k) Sealed) (λ s. by_test P (is_sealed st k.slot) _ _ (λ s. refused (union j k) Sealed) (λ s.
      by_test P (sj <? sk) _ _
      (λ f. let l : suc sj ≤ sk = is_so (suc sj ≤ sk) (sj <? sk) (le_is (suc sj) sk) f in λ accepted. pays sj (λ a b ea eb pa pb. omega (arith, l, ea, eb, ceiling-join a b pa (omega (arith, l, ea, eb)))))
      (λ f. let l : suc sj ≤ sk → ⊥ = is-not (suc sj ≤ sk) (sj <? sk) (le_is (suc sj) sk) f in λ accepted. pays sk (λ a b ea eb pa pb. let i : b ≤ a = omega (arith, l, ea, eb) in let w : b + a ≡ a + b = omega arith in subst (λ (t : ℕ). ceiling b + ceiling a + sk ≤ ceiling t) w (omega (arith, eb, ceiling-join b a pb i)))))))))

  call_pays : (c : Call) → Building c → Pays c (ruling st lent c)
  unfolding Runs.new_run Runs.insert
  call_pays c (begins payload value size) =
      let P = Pays (new_run payload value size) in
      by_test P (is_full st.head.shared) _ _ (λ e. refused (new_run payload value size) NoShared) (λ e.
      by_test P (is_full st.head.elems) _ _ (λ f. refused (new_run payload value size) NoElement) (λ f e. begun_pays size))
  call_pays c (inserts k payload size) =
      let P = Pays (insert k payload size) in
      by_key P (refused (insert k payload size)) st k _ (λ l.
      by_test P (is_sealed st k.slot) _ _ (λ s. refused (insert k payload size) Sealed) (λ s.
      by_test P (is_full st.head.elems) _ _ (λ e. refused (insert k payload size) NoElement) (λ f e. inserted_pays k size (live_of st k l))))
  call_pays c (joins j k) = union_pays j k

-- what is known after such calls
record Owed (h : History) (rewrites : ℕ) : Type 0 where
  none : h.taken ≡ 0
  most : rewrites ≤ spent h.runs

-- calls that change nothing of it
aside_owed : (h : History) (c : Call) (said : Said) (n : ℕ) → Aside c → Owed h n → Owed (noted h c said) n
aside_owed h c said n a O = go (said.number == 0)
  where
    go : (b : Bool) → Owed (if b then accepted h c said.values else h) n
    go true = record { none = a.taken h said.values ∙ O.none; most = rw (a.runs h said.values) O.most }
    go false = O

refused-same : (h : History) (c : Call) (said : Said) → said.number ≢ 0 → noted h c said ≡ h
refused-same h c said n = rw (is_false (said.number == 0) (eq_is said.number 0) n) refl

built_owed : {s : Sequence} {n : ℕ} → Built s n → Owed s.history n
unfolding spent
built_owed (begin st elems shared e) = record { none = refl; most = omega arith }
built_owed (call {s = s} {n = n} b lent c o d e building) =
    let O = built_owed b in
    let G = after-good s.calls in
    let h = s.history in
    let p = subst (λ (q : Outcome). q.said.number ≡ 0 → Paid s.state lent h G (noted h c q.said) (rewritten q.said)) (sym (at-door G (after_recalls s.calls) lent c o d)) (call_pays s.state lent h G c building) e in
    record { none = p.none ∙ O.none; most = omega (arith, p.paid, O.most) }
built_owed (aside {s = s} {n = n} b lent c o d a) = aside_owed s.history c o.said n a (built_owed b)
built_owed (Ceiling.refused {s = s} {n = n} b lent c o d r) = subst (λ (h : History). Owed h n) (sym (refused-same s.history c o.said r)) (built_owed b)

pub union-ceiling : Ceiling
union-ceiling = record {
  ties = ties;
  holds = λ s n b l.
      let O = built_owed b in
      let h = s.history in
      let e : frames h ≡ h.put = omega (arith, (after-good s.calls).counts, O.none) in
      subst (λ (m : ℕ). n ≤ ceiling m) e (le_trans O.most (spent_most h.runs));
}
