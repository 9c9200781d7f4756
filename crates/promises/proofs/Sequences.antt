-- Demand 3 for what a host calls: every sequence of C entries is one of calls at the door, with the same history.
use Rattle.std.specs.Prelude.{if◌then◌else◌, ◌==◌}
use Prim.Native.Nat.{ℕ}
use mathlib.Core.Path.{◌≡◌, refl, sym, ap, ◌∙◌, subst}
use mathlib.Core.Logic.{◌≢◌}
use mathlib.Core.Bool.{Bool, true, false}
use lib.Dec.{lit<}
use mathlib.Core.List.{List, []}
use lib.ListN.{get_or}
use Rattle.rules.specs.declared.Key.{Key}
use Rattle.rules.specs.Tables.{State, is_sealed}
use Rattle.rules.specs.Sound.{both_fit}
use Rattle.rules.specs.Refusals.{Ruling, Said, Outcome, outcome, shaped}
use Rattle.rules.specs.Slots
use Rattle.rules.specs.Slots.{is_full}
use Rattle.rules.specs.Runs
use Rattle.rules.specs.Calls.{Call, len_surject, in_same_surject, get_element, get_shared, get_size, get_total, lookup, set_element, set_shared, check, new_run, insert, union, remove, remove_shared, list, drain, seal, drain_all, clear, undo, exchange, compress, compress_with, write_file, step, fresh_step, AtDoor}
use Rattle.rules.specs.ReadFile.{read_step, runs_of}
use Rattle.rules.specs.RunFile.{StoredRun}
use Rattle.rules.specs.History.{History, accepted, noted, noted_fresh, nothing, begun_with, read_into, noted_read, moved_into, noted_to, noted_from}
use Rattle.rules.specs.Demand.{After, start, fresh, call, start_read, read, copy, Union, start_move, move_to, move_from}
use Rattle.rules.proofs.Laws.Rulings.{by_test, by_key}
use Rattle.rules.specs.Copy.{clone_step}
use Rattle.rules.proofs.Laws.TwoDoors.{both_pass}
use Rattle.rules.proofs.Laws.DemandThree
use Rattle.rules.proofs.Laws.Recalls.{remembers}
use Rattle.numbers.specs.Numbers.{head_of, values, result_of}
use Rattle.numbers.proofs.Told.{zero_result, small}
use Rattle.numbers.proofs.Thirteen.{thirteen_of, head_of_thirteen}
use Rattle.promises.specs.Host.{Left, left, shown, AtHost, AtRead}
use Rattle.promises.specs.InPlace.{left_at, AtHead}
use Rattle.promises.specs.Two.{TwoLeft, left_two, shown_two, AtHostCopy}
use Rattle.promises.specs.Sequence.{numbers_of, heard, lent_state, AfterEntries, begun, freshened, called, called_in_place, begun_read, read_in, copied, Demand3AtHost, begun_moved, moved_to, moved_from}

-- the history takes from the numbers in `out` what it takes from the answer: the key of a frame put in
accepted-heard : (h : History) (c : Call) (said : Said) → accepted h c (numbers_of c said) ≡ accepted h c said.values
accepted-heard h (new_run payload value size) said = refl
accepted-heard h (insert k payload size) said = refl
accepted-heard h (union j k) said = refl
accepted-heard h (remove k) said = refl
accepted-heard h (remove_shared k) said = refl
accepted-heard h (drain k) said = refl
accepted-heard h (seal k) said = refl
accepted-heard h drain_all said = refl
accepted-heard h clear said = refl
accepted-heard h undo said = refl
accepted-heard h (compress reset) said = refl
accepted-heard h (compress_with reset) said = refl
accepted-heard h (len_surject k) said = refl
accepted-heard h (in_same_surject j k) said = refl
accepted-heard h (get_element k) said = refl
accepted-heard h (get_shared k) said = refl
accepted-heard h (get_size k) said = refl
accepted-heard h (get_total k) said = refl
accepted-heard h (lookup k) said = refl
accepted-heard h (set_element k payload) said = refl
accepted-heard h (set_shared k value) said = refl
accepted-heard h (exchange keys news) said = refl
accepted-heard h (list k) said = refl
accepted-heard h check said = refl
accepted-heard h write_file said = refl

-- so what a host is told notes the history that the answer does
noted-heard : (h : History) (c : Call) (out : List ℕ) (o : Outcome) → noted h c (heard (result_of o.said) (shown (numbers_of c) out o).out) ≡ noted h c o.said
noted-heard h c out o = rw (zero_result o.said) (go (o.said.number == 0))
  where
    go : (b : Bool) → (if b then accepted h c (if b then numbers_of c o.said else out) else h) ≡ (if b then accepted h c o.said.values else h)
    go true = accepted-heard h c o.said
    go false = refl

noted-fresh : (h : History) (said : Said) → noted_fresh h (heard (result_of said) []) ≡ noted_fresh h said
noted-fresh h said = rw (zero_result said)

noted-read : (h : History) (rs : List StoredRun) (said : Said) → noted_read h rs (heard (result_of said) []) ≡ noted_read h rs said
noted-read h rs said = rw (zero_result said)

-- 1 and 2 are told as they are
not-refused : (said : Said) → (said.number ≢ 1) × (said.number ≢ 2) → (result_of said ≢ 1) × (result_of said ≢ 2)
not-refused said n = ((λ e. n.0 ((small said 1 (lit< tt)).0 e)), λ e. n.1 ((small said 2 (lit< tt)).0 e))

-- from the state that the lent head and tables are, an entry's promise leads to the state that they are then
module _ (h : History) (c : Call) (st : State) (after_st : After st h) (lent out : List ℕ) (after : Left) (o : Outcome) where
  pub leads : AtDoor st lent c o → after ≡ shown (numbers_of c) out o → After after.state (noted h c (heard after.number after.out))
  leads d e =
      subst (λ (l : Left). After l.state (noted h c (heard l.number l.out))) (sym e)
      (subst (λ (g : History). After o.state g) (sym (noted-heard h c out o)) (call after_st lent c o d))

pub after-entries : {head elems shared : List ℕ} {h : History} → AfterEntries head elems shared h → After (lent_state head elems shared) h
after-entries (begun ec sc head elems shared head' elems' shared' p) =
    let st = lent_state head elems shared in
    subst (λ (l : Left). After l.state nothing) (sym p.same) (start st ec sc ((small (fresh_step st ec sc).said 0 (lit< tt)).0 (sym (ap (λ (l : Left). l.number) p.same))))
after-entries (freshened {head = head} {elems = elems} {shared = shared} {h = h} a ec sc r head' elems' shared' p) =
    subst (λ (l : Left). After l.state (noted_fresh h (heard l.number []))) (sym p.same) (rw (noted-fresh h (fresh_step (lent_state head elems shared) ec sc).said) (fresh (after-entries a) ec sc))
after-entries (called {h = h} a c lent out r head' elems' shared' lent' out' p) =
    leads h c _ (after-entries a) lent out (left r head' elems' shared' lent' out') p.outcome p.door p.same
after-entries (called_in_place {h = h} a c out r head' elems' shared' out' p) =
    leads h c _ (after-entries a) [] out (left_at r (head_of head') elems' shared' out') p.outcome p.door p.same
after-entries (begun_read file b head elems shared head' elems' shared' p) =
    let st = lent_state head elems shared in
    subst (λ (l : Left). After l.state (read_into nothing (runs_of file))) (sym p.same) (start_read st file b ((small (read_step st file).said 0 (lit< tt)).0 (sym (ap (λ (l : Left). l.number) p.same))))
after-entries (read_in {head = head} {elems = elems} {shared = shared} {h = h} a file b r head' elems' shared' p) =
    subst (λ (l : Left). After l.state (noted_read h (runs_of file) (heard l.number []))) (sym p.same) (rw (noted-read h (runs_of file) (read_step (lent_state head elems shared) file).said) (read (after-entries a) file b))
after-entries (copied {head = head} {elems = elems} {shared = shared} {h = h} a to_head to_elems to_shared head' elems' shared' p) =
    subst (λ (l : TwoLeft). After l.target (begun_with h)) (sym p.same)
    (copy (after-entries a) (lent_state to_head to_elems to_shared) p.outcome p.door ((small p.outcome.said 0 (lit< tt)).0 (sym (ap (λ (l : TwoLeft). l.number) p.same))))
after-entries (begun_moved {h = h} a g to_head to_elems to_shared out head' elems' shared' from_head from_elems from_shared out' p) =
    subst (λ (l : TwoLeft). After l.target (moved_into nothing h g)) (sym p.same)
    (start_move (after-entries a) (lent_state to_head to_elems to_shared) g p.outcome p.door ((small p.outcome.said 0 (lit< tt)).0 (sym (ap (λ (l : TwoLeft). l.number) p.same))))
after-entries (moved_to {h = h} {t = t} a b g r out head' elems' shared' from_head from_elems from_shared out' p) =
    subst (λ (l : TwoLeft). After l.target (noted_to t h g (heard l.number out'))) (sym p.same)
    (rw (zero_result p.outcome.said) (move_to (after-entries a) (after-entries b) g p.outcome p.door))
after-entries (moved_from {h = h} a g r to_head to_elems to_shared out head' elems' shared' from_head from_elems from_shared out' p) =
    subst (λ (l : TwoLeft). After l.source (noted_from h (heard l.number out'))) (sym p.same)
    (rw (zero_result p.outcome.said) (move_from (after-entries a) (lent_state to_head to_elems to_shared) g p.outcome p.door))

-- a first fresh over any head and tables that fit begins one
pub begins : (elem_capacity shared_capacity : ℕ) (head elems shared : List ℕ) → both_fit (lent_state head elems shared) elem_capacity shared_capacity ≡ true
    → let st = Slots.empty elem_capacity shared_capacity 1 in
    AfterEntries (thirteen_of st.head) st.elems st.shared nothing
unfolding Slots.fresh
begins elem_capacity shared_capacity head elems shared e =
    let st = Slots.empty elem_capacity shared_capacity 1 in
    begun elem_capacity shared_capacity head elems shared (thirteen_of st.head) st.elems st.shared (record { same = rw (e, head_of_thirteen) })

-- and any call can be the next one: its entry leaves what the call's own rule says
module _ {head elems shared : List ℕ} {h : History} (a : AfterEntries head elems shared h) (c : Call) where
  pub goes_on : (lent out : List ℕ) → let l = shown (numbers_of c) out (step (lent_state head elems shared) lent c) in
      AtHost c (numbers_of c) head elems shared lent out (left l.number (thirteen_of l.state.head) l.state.elems l.state.shared l.lent l.out)
  goes_on lent out = record {
    outcome = step (lent_state head elems shared) lent c;
    door = DemandThree.goes_on (after-entries a) lent c;
    same = rw head_of_thirteen;
  }

  pub goes_on_in_place : (out : List ℕ) → (step (lent_state head elems shared) [] c).lent ≡ [] → let l = shown (numbers_of c) out (step (lent_state head elems shared) [] c) in
      AtHead c (numbers_of c) (head_of head) elems shared out (left_at l.number (head_of (thirteen_of l.state.head)) l.state.elems l.state.shared l.out)
  goes_on_in_place out e = record {
    outcome = step (lent_state head elems shared) [] c;
    door = DemandThree.goes_on (after-entries a) [] c;
    same =
        let l = shown (numbers_of c) out (step (lent_state head elems shared) [] c) in
        rw head_of_thirteen (λ i. record { number = l.number; state = l.state; lent = sym e i; out = l.out });
  }

-- and so can a read of any file: its entry leaves what its own rule says
pub reads_in : (file head elems shared : List ℕ) → let l = shown values [] (read_step (lent_state head elems shared) file) in
    AtRead file head elems shared (left l.number (thirteen_of l.state.head) l.state.elems l.state.shared l.lent l.out)
reads_in file head elems shared = record { same = rw head_of_thirteen }

-- and so can a copy to a head and tables that fit: its entry leaves what its own rule says
pub copies_to : {head elems shared : List ℕ} {h : History} → AfterEntries head elems shared h → (to_head to_elems to_shared : List ℕ) → shaped (lent_state to_head to_elems to_shared) ≡ true
    → let o = clone_step (lent_state to_head to_elems to_shared) (lent_state head elems shared) in
    o.source ≡ lent_state head elems shared → AtHostCopy to_head to_elems to_shared head elems shared (left_two (result_of o.said) (thirteen_of o.target.head) o.target.elems o.target.shared head elems shared (shown_two values [] o).out)
copies_to {head} {elems} {shared} {h} a to_head to_elems to_shared t e =
    let R = (DemandThree.after-good (after-entries a)).ready in
    let M = remembers (lent_state head elems shared) h (DemandThree.after_recalls (after-entries a)) in
    let o = clone_step (lent_state to_head to_elems to_shared) (lent_state head elems shared) in
    record {
      outcome = o;
      door = both_pass _ _ _ _ o R.shape t (R.sound, M) refl;
      same = rw head_of_thirteen (λ i. record { number = result_of o.said; target = o.target; source = sym e i; out = (shown_two values [] o).out });
    }

-- the two calls that have such an entry write to no buffer
module _ (st : State) (k : Key) where
  abbrev unlent : Ruling → Type 0
  unlent r = (outcome st [] r).lent ≡ []

  pub insert_unlent : (payload size : ℕ) → (step st [] (insert k payload size)).lent ≡ []
  unfolding Runs.insert
  insert_unlent payload size = by_key unlent (λ r. refl) st k _ (λ l. by_test unlent (is_sealed st k.slot) _ _ (λ s. refl) (λ s. by_test unlent (is_full st.head.elems) _ _ (λ e. refl) (λ e. refl)))

  pub remove_unlent : (step st [] (remove k)).lent ≡ []
  unfolding Runs.remove
  remove_unlent = by_key unlent (λ r. refl) st k _ (λ l. refl)

-- an accepted union, as the host sees it
abbrev seen : Left → Outcome
seen l = record { said = heard l.number l.out; state = l.state; lent = l.lent }

at-union : {head elems shared : List ℕ} (h : History) → AfterEntries head elems shared h → (j k : Key) (lent out : List ℕ) (after : Left) (o : Outcome)
    → AtDoor (lent_state head elems shared) lent (union j k) o → after ≡ shown values out o → after.number ≡ 0
    → Union (lent_state head elems shared) h j k (seen after)
at-union {head} {elems} {shared} h a j k lent out after o d e z =
    let zero : o.said.number ≡ 0 = (small o.said 0 (lit< tt)).0 (sym (ap (λ (l : Left). l.number) e) ∙ z) in
    let u = (DemandThree.demand_3).unions _ h (after-entries a) lent j k o d zero in
    let told : (shown values out o).out ≡ o.said.values = rw zero in
    subst (λ (l : Left). Union (lent_state head elems shared) h j k (seen l)) (sym e)
    (record { smaller = u.smaller; answered = ap (λ (v : List ℕ). get_or v 3 0) told ∙ u.answered; frames = u.frames; headers = u.headers })

-- the door's demand 3, read at what a host lends and is told
pub demand_3_at_host : Demand3AtHost
demand_3_at_host = record {
  passes = λ head elems shared h a c numbers lent out after p.
      subst (λ (l : Left). (l.number ≢ 1) × (l.number ≢ 2)) (sym p.same) (not-refused p.outcome.said ((DemandThree.demand_3).passes _ h (after-entries a) lent c p.outcome p.door));
  passes_in_place = λ head elems shared h a c numbers out after p.
      subst (λ (l : Left). (l.number ≢ 1) × (l.number ≢ 2)) (sym p.same) (not-refused p.outcome.said ((DemandThree.demand_3).passes _ h (after-entries a) [] c p.outcome p.door));
  rings = λ head elems shared h a. (DemandThree.demand_3).rings _ h (after-entries a);
  unions = λ head elems shared h a j k lent out head' elems' shared' lent' out' p. at-union h a j k lent out _ p.outcome p.door p.same refl;
}
