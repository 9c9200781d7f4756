-- Drain a run: its steps, the loop's invariant, and the call's ways.
use Rattle.std.specs.Prelude.{if◌then◌else◌}
use Rattle.std.specs.Int.{from_bool}
use Prim.Native.Nat.{ℕ, zero, suc, ◌+◌, ◌*◌, ◌-◌, ◌≤◌, ◌<◌}
use mathlib.Core.Path.{◌≡◌, refl, ◌∙◌}
use mathlib.Core.Logic.{◌≢◌}
use mathlib.Core.Bool.{Bool, true, false}
use mathlib.Core.List.{List, [], ◌∷◌, ◌++◌}
use native.Mathlib.Omega.{arith}
use lib.ListN.{length, length-append}
use lib.Seq.{sets}
use Rattle.rules.specs.declared.Key.{Key}
use Rattle.rules.specs.declared.Rest.{Rest}
use Rattle.rules.specs.declared.Rest.TheVariants.{GoesOn, Last}
use Rattle.std.specs.Prelude.{Ok, Err}
use Rattle.rules.specs.declared.Cause.{Cause}
use Rattle.rules.specs.declared.Refusal.TheVariants.{Dead, Short}
use Rattle.rules.specs.Slots.{overflows}
use Rattle.rules.specs.Tables.{key_at, payload_of, next_of, State, row, found, size_at}
use Rattle.rules.specs.Refusals.{outcome, said_accepted, refuse}
use Rattle.rules.specs.Runs.{removed, rest_of}
use Rattle.rules.specs.Drains.{record_width, rest_fields, drain_record, drain_records, drained, drain}
use Rattle.rules.specs.Calls.{Ready, step}
use Rattle.rules.specs.Calls as calls
use Rattle.rules.proofs.Laws.Pools
use Rattle.rules.proofs.Laws.Working.{view}
use Rattle.rules.proofs.Laws.Safe.{LiveSlot, safe, working}
use Rattle.rules.proofs.Laws.Remove.{remove_keeps}
use Rattle.rules.proofs.Laws.Drained.{onward}
use Rattle.slots.specs.Asked.{OnLive}
use Rattle.drains.specs.Asked.{Run}
use Rattle.rings.proofs.Written.{written_next}
use Rattle.rings.proofs.Ways.{written_3, written_7, written-done}

-- a record's fields
pub record_of : (a b c : ℕ) (r : Rest) (over : Bool) (last value : ℕ) → last ∷ value ∷ [] ≡ rest_fields r
    → a ∷ b ∷ c ∷ last ∷ value ∷ from_bool over ∷ [] ≡ a ∷ b ∷ c ∷ rest_fields r ++ (if over then 1 else 0) ∷ []
record_of a b c r true last value e = rw (← e)
record_of a b c r false last value e = rw (← e)

record_long : (st : State) (x : ℕ) → length (drain_record st x) ≡ record_width
record_long st x = go (rest_of st x) x (key_at st x).generation (payload_of st.elems x) (if overflows st then 1 else 0)
  where
    go : (r : Rest) (a b c f : ℕ) → length (a ∷ b ∷ c ∷ rest_fields r ++ f ∷ []) ≡ record_width
    go GoesOn a b c f = refl
    go (Last value) a b c f = refl

pub records_long : (n : ℕ) (st : State) (x : ℕ) → length (drain_records n st x) ≡ n * record_width
unfolding drain_records
records_long zero st x = omega arith
records_long (suc n) st x = rw (length-append, record_long st x, records_long n (removed st x) (next_of st.elems x)) (omega arith)

-- a frame's slot is live
pub live-slot : (st : State) → Ready st → (x : ℕ) → (view st).gen x ≢ 0 → LiveSlot st x
live-slot st R x h = let l = Pools.live_in (working st R).elems x h in record { some = l.0; within = l.1; used = omega arith }

pub used-slot : (st : State) (x : ℕ) → LiveSlot st x → (view st).gen x ≢ 0
used-slot st x l = omega (arith, l.used)

-- what a frame's removal asks
pub frame_at : (st : State) → Ready st → (x : ℕ) → (view st).gen x ≢ 0 → OnLive st x
frame_at st R x h = let s = safe st R in let l = live-slot st R x h in record { safe = s; live = l; frame = s.frames x l }

pub run_at : (st : State) (n x : ℕ) → Run st n x → 0 < n → OnLive st x
run_at st n x r h = let s = safe st r.ready in let l = r.live h in record { safe = s; live = l; frame = s.frames x l }

-- the run that is left
pub run-next : (st : State) (n x : ℕ) → Run st (suc n) x → Run (removed st x) n (next_of st.elems x)
run-next st n x r =
    let h : 0 < suc n = omega arith in
    let l = used-slot st x (r.live h) in
    let R = remove_keeps st r.ready x l in
    record {
      ready = R;
      live = λ m. live-slot (removed st x) R (next_of st.elems x) (onward st r.ready x l (omega (arith, r.size h))).live;
      size = λ m. omega (arith, (onward st r.ready x l (omega (arith, r.size h))).size, r.size h);
    }

-- what is still to drain, past `written` places, gives the whole
pub record Draining (st₀ : State) (n x : ℕ) (out₀ : List ℕ) (from : ℕ) (st : State) (at : ℕ) (out : List ℕ) (written : ℕ) : Type 0 where
  pub run : Run st (from + n - written) at
  pub state : drained (from + n - written) st at ≡ drained n st₀ x
  pub rest : sets out (written * record_width) (drain_records (from + n - written) st at) ≡ sets out₀ (from * record_width) (drain_records n st₀ x)

pub draining_begun : (st : State) (n x : ℕ) (out : List ℕ) (from : ℕ) → Run st n x → Draining st n x out from st x out from
draining_begun st n x out from r = let z : from + n - from ≡ n = omega arith in record { run = rw z r; state = rw z; rest = rw z }

module _ (st₀ : State) (n x : ℕ) (out₀ : List ℕ) (from : ℕ) (st : State) (at : ℕ) (out : List ℕ) (written : ℕ) (D : Draining st₀ n x out₀ from st at out written) where
  pub draining_next : written < from + n → (st' : State) (out' : List ℕ) → st' ≡ removed st at → out' ≡ row record_width out (written + 1) (drain_record st at)
      → Draining st₀ n x out₀ from st' (next_of st.elems at) out' (written + 1)
  unfolding drained drain_records
  draining_next h st' out' e f =
      let m = from + n - (written + 1) in
      let z : from + n - written ≡ suc m = omega arith in
      let more = drain_records m (removed st at) (next_of st.elems at) in
      record {
        run = rw e (run-next st m at (rw z at D.run));
        state = rw e (rw z at D.state);
        rest = rw (e, f) (written_next record_width out written (drain_record st at) more (record_long st at) ∙ rw z at D.rest);
      }

  pub draining_done : from + n ≤ written → (st ≡ drained n st₀ x) × (out ≡ sets out₀ (from * record_width) (drain_records n st₀ x))
  unfolding drained drain_records
  draining_done h = let z : from + n - written ≡ 0 = omega arith in (rw z at D.state, rw z at D.rest)

-- drain a run, by its three ways
module _ (st : State) (lent : List ℕ) (k : Key) where
  pub drain_3 : {cause : Cause} → found st k ≡ Err cause → outcome st lent (refuse (Dead cause)) ≡ step st lent (calls.drain k)
  unfolding drain
  drain_3 = written_3 st lent k record_width (λ x. drained (size_at st x) st x) (λ x. drain_records (size_at st x) st x)

  module _ (x : ℕ) (live : found st k ≡ Ok x) where
    pub drain_7 : length lent < size_at st x * record_width → outcome st lent (refuse Short) ≡ step st lent (calls.drain k)
    unfolding drain
    drain_7 = written_7 st lent k record_width (λ x. drained (size_at st x) st x) (λ x. drain_records (size_at st x) st x) x live

    pub drain-done : (s : State) (out : List ℕ) → size_at st x * record_width ≤ length lent → s ≡ drained (size_at st x) st x → out ≡ sets lent 0 (drain_records (size_at st x) st x)
        → record { said = said_accepted (size_at st x ∷ []) false; state = s; lent = out } ≡ step st lent (calls.drain k)
    unfolding drain
    drain-done s out l e f = written-done st lent k record_width (λ x. drained (size_at st x) st x) (λ x. drain_records (size_at st x) st x) x s out live l (records_long (size_at st x) st x) e f
