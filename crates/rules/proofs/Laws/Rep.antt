-- What a history says of the tables: its runs are their rings.
use mathlib.Core.Path.{◌≡◌, sym, ap, ◌∙◌}
use mathlib.Core.Logic.{◌≢◌}
use mathlib.Core.List.{List}
use Prim.Native.Nat.{ℕ}
use Rattle.rules.specs.declared.Key.{Key}
use Rattle.rules.specs.Notation.{flat}
use Rattle.rules.proofs.Laws.Lists.{All, In, NoDup, Cycle, all-at, all_of, cycle_turn}
use Rattle.rules.proofs.Laws.Working.{View}
use Rattle.rules.proofs.Laws.Fronted.{Same, same-all, same_in, same_back, same_nodup}

-- the key of a slot
abbrev pub key_at : View → ℕ → Key
key_at v s = record { slot = s; generation = v.gen s }

-- the key that stands after a key
abbrev pub next_key : View → Key → Key
next_key v k = key_at v (v.next k.slot)

pub record LiveKey (v : View) (k : Key) : Type 0 where
  pub live : v.gen k.slot ≢ 0
  pub gen : v.gen k.slot ≡ k.generation

pub record Rep (v : View) (h : List (List Key)) : Type 0 where
  -- each run is a ring of the tables, in its order
  pub rings : All (Cycle (next_key v)) h
  -- its keys are live
  pub live : All (LiveKey v) (flat h)
  -- none twice, in one run or in two
  pub once : NoDup (flat h)
  -- and no frame is left out
  pub whole : (s : ℕ) → v.gen s ≢ 0 → In (key_at v s) (flat h)

pub rep_same : (v : View) {h g : List (List Key)} → Same h g → Rep v h → Rep v g
rep_same v {h} {g} s R = record {
  rings = same-all (Cycle (next_key v)) (λ p k q c. cycle_turn (next_key v) p k q c) s R.rings;
  live = all_of (LiveKey v) (flat g) (λ x m. all-at (LiveKey v) x (flat h) R.live (same_back x s m));
  once = same_nodup s R.once;
  whole = λ t h. same_in (key_at v t) s (R.whole t h);
}

pub key_live : (v : View) (k : Key) → LiveKey v k → key_at v k.slot ≡ k
key_live v k l = λ i. record { slot = k.slot; generation = l.gen i }

-- live keys that differ have slots that differ
pub slots_apart : (v : View) (k j : Key) → LiveKey v k → LiveKey v j → k ≢ j → k.slot ≢ j.slot
slots_apart v k j l m n e = n (λ i. record { slot = e i; generation = (sym l.gen ∙ ap v.gen e ∙ m.gen) i })

-- a live key is in the history
pub held : (v : View) (h : List (List Key)) (k : Key) → Rep v h → LiveKey v k → In k (flat h)
held v h k R l = rw (key_live v k l) at (R.whole k.slot l.live)

pub key-at : (v v' : View) (s : ℕ) → v'.gen s ≡ v.gen s → key_at v' s ≡ key_at v s
key-at v v' s e = λ i. record { slot = s; generation = e i }
