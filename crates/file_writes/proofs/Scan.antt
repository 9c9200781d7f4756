-- One slot of the writer's scan: it begins a run exactly if it is live and its class was not met, and then that class is met too.
use Prim.Native.Nat.{ℕ, suc, ◌*◌, ◌-◌, ◌≤◌, ◌<◌}
use mathlib.Core.Path.{◌≡◌, refl, sym, ap, ◌∙◌, subst}
use mathlib.Core.Logic.{◌≢◌, ◌⊎◌, inl, inr}
use mathlib.Core.Bool.{Bool, true, false, true≢false}
use mathlib.Core.List.{List}
use native.Mathlib.Omega.{arith}
use native.Mathlib.Decide.{ℕ_discrete}
use lib.ListN.{length, replicate, length-replicate}
use Rattle.marks.specs.Marks.{marked, Added}
use Rattle.marks.proofs.Digits.{none}
use Rattle.rules.specs.Tables.{generation_of, class_of, State}
use Rattle.rules.specs.Compress.{is_lowest}
use Rattle.rules.proofs.Laws.Working.{view, Working}
use Rattle.rules.proofs.Laws.Order.{Looked, free, first, later, looked, Led, led_more, led_split, not_led, is_led}
use Rattle.rules.proofs.Laws.Safe.{safe, working, LiveSlot, SafeFrame}
use Rattle.file_writes.specs.Writes.{Marks, Scans, Begins}

-- no class is met before the first slot
pub none-met : (st : State) (n : ℕ) → st.head.shared.extent ≤ n * 64 → Marks st 0 (replicate n 0)
none-met st n h = record {
  room = omega (arith, length-replicate {A = ℕ} n 0);
  marks = λ c e. absurd (true≢false (sym e ∙ none n c));
  noted = λ c l. absurd (omega (arith, l.low, l.high));
}

module _ {st : State} {k : ℕ} {seen : List ℕ} (s : Scans st k seen) where
  abbrev W : Working (view st)
  W = working st s.ready

  -- what the book says of the slot, by what is found there
  lowest-free : generation_of st.elems (suc k) ≡ 0 → (b : Bool) → Looked st (suc k) b → b ≡ false
  lowest-free e b (free q) = refl
  lowest-free e b (first h a) = absurd (h e)
  lowest-free e b (later h z m l) = refl

  lowest_led : Led st k (class_of st.elems (suc k)) → (b : Bool) → Looked st (suc k) b → b ≡ false
  lowest_led l b (free q) = refl
  lowest_led l b (first h a) = absurd (not_led st W k (class_of st.elems (suc k)) h a refl l)
  lowest_led l b (later h z m d) = refl

  lowest_new : generation_of st.elems (suc k) ≢ 0 → (Led st k (class_of st.elems (suc k)) → ⊥) → (b : Bool) → Looked st (suc k) b → b ≡ true
  lowest_new h n b (free q) = absurd (h q)
  lowest_new h n b (first g a) = refl
  lowest_new h n b (later g z m l) = absurd (n (is_led st W k z g m l))

  is-lowest : (b : Bool) → ((a : Bool) → Looked st (suc k) a → a ≡ b) → is_lowest st (suc k) ≡ b
  is-lowest b f = f (is_lowest st (suc k)) (looked st W (suc k))

  -- the slot adds no class
  same-marks : (generation_of st.elems (suc k) ≢ 0 → (c : ℕ) → class_of st.elems (suc k) ≡ suc c → marked seen c ≡ true) → Marks st (suc k) seen
  same-marks f = record {
    room = s.marks.room;
    marks = λ c e. led_more (s.marks.marks c e);
    noted = λ c l. go c (led_split l);
  }
    where
      go : (c : ℕ) → (generation_of st.elems (suc k) ≢ 0 × class_of st.elems (suc k) ≡ suc c) ⊎ Led st k (suc c) → marked seen c ≡ true
      go c (inl p) = f p.0 c p.1
      go c (inr l) = s.marks.noted c l

  module _ (x : ℕ) (at : x ≡ suc k) where
    pub begins-free : (g : ℕ) → g ≡ generation_of st.elems x → g ≡ 0 → Begins st k false seen
    begins-free g e z =
        let q : generation_of st.elems (suc k) ≡ 0 = ap (generation_of st.elems) (sym at) ∙ sym e ∙ z in
        record { lowest = is-lowest false (lowest-free q); marks = same-marks (λ h. absurd (h q)) }

    module _ (g : ℕ) (e : g ≡ generation_of st.elems x) (h : g ≢ 0) where
      live_here : generation_of st.elems (suc k) ≢ 0
      live_here q = h (e ∙ ap (generation_of st.elems) at ∙ q)

      pub live-slot : LiveSlot st x
      live-slot = record { some = omega arith; within = omega (arith, s.some); used = omega (arith, h) }

      pub live-frame : SafeFrame st x
      live-frame = (safe st s.ready).frames x live-slot

      module _ (c : ℕ) (ec : c ≡ class_of st.elems x) where
        pub class-some : 1 ≤ c
        class-some = omega (arith, live-frame.class-some)

        pub class-room : c - 1 < length seen * 64
        class-room = omega (arith, live-frame.class-some, live-frame.class_in, s.marks.room)

        class-here : class_of st.elems (suc k) ≡ suc (c - 1)
        class-here = ap (class_of st.elems) (sym at) ∙ sym ec ∙ omega (arith, class-some)

        one_class : (d : ℕ) → class_of st.elems (suc k) ≡ suc d → c - 1 ≡ d
        one_class d q = let z : suc (c - 1) ≡ suc d = sym class-here ∙ q in omega arith

        pub begins-seen : marked seen (c - 1) ≡ true → Begins st k false seen
        begins-seen m =
            record {
              lowest = is-lowest false (lowest_led (subst (Led st k) (sym class-here) (s.marks.marks (c - 1) m)));
              marks = same-marks (λ _ d q. subst (λ (y : ℕ). marked seen y ≡ true) (one_class d q) m);
            }

        pub begins-first : marked seen (c - 1) ≡ false → (after : List ℕ) → length after ≡ length seen → Added seen (c - 1) after → Begins st k true after
        begins-first m after long a =
            record {
              lowest = is-lowest true (lowest_new live_here (λ l. true≢false (sym (s.marks.noted (c - 1) (subst (Led st k) class-here l)) ∙ m)));
              marks = record { room = omega (arith, s.marks.room, long); marks = λ d q. met d q (ℕ_discrete d (c - 1)); noted = λ d l. kept d (ℕ_discrete d (c - 1)) (led_split l) };
            }
          where
            met : (d : ℕ) → marked after d ≡ true → Dec (d ≡ c - 1) → Led st (suc k) (suc d)
            met d q (yes z) = record { by = suc k; low = omega arith; high = omega arith; live = live_here; same = class-here ∙ ap suc (sym z) }
            met d q (no z) = led_more (s.marks.marks d (sym (a.others d z) ∙ q))

            kept : (d : ℕ) → Dec (d ≡ c - 1) → (generation_of st.elems (suc k) ≢ 0 × class_of st.elems (suc k) ≡ suc d) ⊎ Led st k (suc d) → marked after d ≡ true
            kept d (yes z) l = ap (marked after) z ∙ a.here
            kept d (no z) (inl p) = absurd (z (sym (one_class d p.1)))
            kept d (no z) (inr l) = a.others d z ∙ s.marks.noted d l
