-- One turn of the scan: what the code read makes of it, and what it makes of the scan; and the scan's end.
use mathlib.Core.Path.{◌≡◌, refl, sym, subst}
use mathlib.Core.Logic.{◌≢◌, ◌⊎◌, inl, inr}
use mathlib.Core.Bool.{Bool, true, false}
use mathlib.Core.List.{List}
use Prim.Native.Nat.{ℕ, ◌+◌, ◌-◌}
use Rattle.marks.specs.Marks.{marked, Added}
use Rattle.rules.specs.Tables.{generation_of, class_of, count_of, total_of, State}
use Rattle.rules.specs.Sound.{Sound}
use Rattle.rules.specs.Refusals.{shaped}
use Rattle.rules.specs.Calls.{Is}
use Rattle.pools.specs.Pools.{Verdict}
use Rattle.rules.proofs.Laws.Working.{view, Working}
use Rattle.rules.proofs.Laws.Rounds.{Within, Round, round_of}
use Rattle.rules.proofs.Laws.Soundness.{shaped_of, working_of_sound}
use Rattle.sound.specs.declared.Turn.{Turn}
use Rattle.sound.specs.declared.Turn.TheVariants.{Free, Seen, First, Wrong}
use Rattle.turns.specs.Turns.{FreeOk}
use Rattle.sound.specs.Scans.{FrameAt, FirstAt, Turned, Scan, Scanned}
use Rattle.sound.proofs.Scans.{skip-free, skip-seen, take-ring, numbered}
use Rattle.sound.proofs.Whole.{must_free, must_class, must_met, must_rings}

pub work : (st : State) → shaped st ≡ true → Sound st → Working (view st)
work st h S = working_of_sound st (shaped_of st h) S

-- ---- what was read at a slot

module _ (st : State) (h : shaped st ≡ true) (x : ℕ) where
  pub wrong_free : generation_of st.elems x ≡ 0 → (FreeOk st.elems x → ⊥) → Sound st → ⊥
  wrong_free z n S = n (must_free st (work st h S) x z)

  module _ (c : ℕ) (live : generation_of st.elems x ≢ 0) (mine : c ≡ class_of st.elems x) where
    pub wrong_class : (Within st.head.shared.extent c → ⊥) → Sound st → ⊥
    wrong_class n S = n (rw mine (must_class st (work st h S) x live))

    pub wrong_ring : (k t : ℕ) → k ≡ count_of st.shared c → t ≡ total_of st.shared c → (Round st.elems st.head.elems.extent c x k t x → ⊥) → Sound st → ⊥
    wrong_ring k t e f n S = n (rw (e, f) (round_of st (work st h S) c x (record { live = live; mine = sym mine })))

    pub frame_at : Within st.head.shared.extent c → FrameAt st x
    frame_at w = record { live = live; class = rw (← mine) w }

    pub first-at : (k t : ℕ) (seen after : List ℕ) → Within st.head.shared.extent c → marked seen (c - 1) ≡ false → k ≡ count_of st.shared c → t ≡ total_of st.shared c → Round st.elems st.head.elems.extent c x k t x → Added seen (c - 1) after → FirstAt st seen x k after
    first-at k t seen after w u e f r a = record { frame = frame_at w; unseen = rw (← mine) u; count = rw (← mine) e; round = rw (← mine) (rw f at r); added = rw (← mine) a }

-- ---- what the scan has then

module _ (st : State) (i met rings : ℕ) (seen after : List ℕ) (r : Turn) (z : Scan st i met rings seen) (t : Turned st seen (i + 1) r after) where
  turn_free : r ≡ Free → Scan st (i + 1) met rings after
  turn_free e =
      let f : Turned st seen (i + 1) Free after = subst (λ (r : Turn). Turned st seen (i + 1) r after) e t in
      subst (Scan st (i + 1) met rings) (sym f.2) (skip-free st i met rings seen z f.0 f.1)

  turn_seen : r ≡ Seen → Scan st (i + 1) met rings after
  turn_seen e =
      let f : Turned st seen (i + 1) Seen after = subst (λ (r : Turn). Turned st seen (i + 1) r after) e t in
      subst (Scan st (i + 1) met rings) (sym f.2) (skip-seen st i met rings seen z (class_of st.elems (i + 1)) f.0.live refl f.0.class.low f.1)

  pub turn_passed : (r ≡ Free) ⊎ (r ≡ Seen) → Scan st (i + 1) met rings after
  turn_passed (inl e) = turn_free e
  turn_passed (inr e) = turn_seen e

  pub turn_first : (k : ℕ) → r ≡ First k → Scan st (i + 1) (met + k) (rings + 1) after
  turn_first k e =
      let f : FirstAt st seen (i + 1) k after = subst (λ (r : Turn). Turned st seen (i + 1) r after) e t in
      take-ring st i met rings seen z (class_of st.elems (i + 1)) f.frame.live refl f.frame.class.low k after f.frame.class.high f.unseen f.count f.round f.added

  pub turn_wrong : r ≡ Wrong → Sound st → ⊥
  turn_wrong e = subst (λ (r : Turn). Turned st seen (i + 1) r after) e t

-- ---- the scan is through

pub verdict_by : {Y N P : Type 0} (r : Bool) → (P → Y) → ((P → ⊥) → N → ⊥) → Is P r → Verdict Y N r
verdict_by true f g a = f a
verdict_by false f g a = g a

module _ (st : State) (i met rings : ℕ) (seen : List ℕ) (z : Scan st i met rings seen) (end : i ≡ st.head.elems.extent) where
  all-passed : Scan st st.head.elems.extent met rings seen
  all-passed = subst (λ (k : ℕ). Scan st k met rings seen) end z

  module _ (h : shaped st ≡ true) where
    pub wrong_met : met ≢ st.head.elems.live → Sound st → ⊥
    wrong_met n S = n (must_met st (work st h S) met rings seen all-passed)

    pub wrong_rings : rings ≢ st.head.shared.live → Sound st → ⊥
    wrong_rings n S = n (must_rings st (work st h S) met rings seen all-passed)

  pub scanned : met ≡ st.head.elems.live → rings ≡ st.head.shared.live → Scanned st
  scanned a b = record { seen = seen; scan = numbered a b all-passed }
