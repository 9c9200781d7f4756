-- Ticket 5: why a key is dead. The three causes exclude each other and cover every key that is not live, and lookup tells each exactly when its sentence holds.
use Rattle.std.specs.Prelude.{◌==◌}
use Prim.Native.Nat.{ℕ, suc, ◌≤◌, ◌<◌}
use native.Mathlib.Omega.{arith}
use borrow.Author.Tests.{ne_eqb, lt-leb, le-leb}
use mathlib.Core.Path.{◌≡◌, subst}
use mathlib.Core.Logic.{◌↔◌, ◌⊎◌, inl, inr}
use mathlib.Core.Bool.{Bool, true, false}
use mathlib.Core.List.{List, [], ◌∷◌}
use Rattle.rules.specs.declared.Key.{Key}
use Rattle.rules.specs.declared.Cause.{Cause}
use Rattle.rules.specs.declared.Cause.TheVariants.{NoSlot, FreeSlot, OtherGeneration}
use Rattle.std.specs.Prelude.{Err}
use Rattle.rules.specs.Notation.{◌<?◌}
use Rattle.rules.specs.Tables.{generation_of, State, is_free, is_live, cause, found, LiveKey}
use Rattle.rules.specs.Calls.{Is}
use Rattle.rules.specs.Exact.{Some, None, Why, Because, FirstDead}
use Rattle.rules.proofs.Laws.Lists.{All}
use Rattle.rules.proofs.Laws.Tests.{eq_is, le_is}
use Rattle.rules.proofs.Laws.Safe.{found-live}

abbrev pub causes : List Cause
causes = NoSlot ∷ FreeSlot ∷ OtherGeneration ∷ []

-- a key is live, or dead for one of the causes
data Either (st : State) (k : Key) : Type 0 where
  live : LiveKey st k → Either st k
  dead : (c : Cause) → Because st k c → Either st k

module _ (st : State) (k : Key) where
  -- what is found, by each of its ways
  pub found_none : k.slot ≡ 0 → found st k ≡ Err NoSlot
  unfolding found cause is_live
  found_none z = simp z

  pub found-past : st.head.elems.extent < k.slot → found st k ≡ Err NoSlot
  unfolding found cause is_live
  found-past h = simp (ne_eqb k.slot 0 (λ e. omega arith), le-leb 1 k.slot (omega arith), lt-leb _ _ h, le-leb _ _ h)

  module _ (n : k.slot ≡ 0 → ⊥) (h : k.slot ≤ st.head.elems.extent) where
    past : (st.head.elems.extent <? k.slot) ≡ false
    past = lt-leb (suc st.head.elems.extent) k.slot (omega arith)

    pub found-free : generation_of st.elems k.slot ≡ 0 → found st k ≡ Err FreeSlot
    unfolding found cause is_free is_live
    found-free z = simp (le-leb 1 k.slot (omega arith), ne_eqb _ _ n, le-leb _ _ h, past, z)

    pub found-other : (generation_of st.elems k.slot ≡ 0 → ⊥) → (generation_of st.elems k.slot ≡ k.generation → ⊥) → found st k ≡ Err OtherGeneration
    unfolding found cause is_free is_live
    found-other u e = simp (le-leb 1 k.slot (omega arith), ne_eqb _ _ n, le-leb _ _ h, past, ne_eqb _ _ u, ne_eqb _ _ e)

  found_because : (c : Cause) → Because st k c → found st k ≡ Err c
  found_because NoSlot (inl z, n) = found_none z
  found_because NoSlot (inr h, n) = found-past h
  found_because FreeSlot (z, (n, m)) = found-free (λ e. n (inl e)) (within (λ h. n (inr h))) z
    where
      within : (st.head.elems.extent < k.slot → ⊥) → k.slot ≤ st.head.elems.extent
      within n = omega arith
  found_because OtherGeneration (e, (n, (u, m))) = found-other (λ e. n (inl e)) (within (λ h. n (inr h))) u e
    where
      within : (st.head.elems.extent < k.slot → ⊥) → k.slot ≤ st.head.elems.extent
      within n = omega arith

  which : Either st k
  which = let g = generation_of st.elems k.slot in go (k.slot == 0) (st.head.elems.extent <? k.slot) (g == 0) (g == k.generation) (eq_is k.slot 0) (le_is _ k.slot) (eq_is g 0) (eq_is g k.generation)
    where
      neither : {P Q : Type 0} → (P → ⊥) → (Q → ⊥) → P ⊎ Q → ⊥
      neither f h (inl p) = f p
      neither f h (inr q) = h q

      go : (a b c d : Bool) → Is (k.slot ≡ 0) a → Is (st.head.elems.extent < k.slot) b → Is (generation_of st.elems k.slot ≡ 0) c → Is (generation_of st.elems k.slot ≡ k.generation) d → Either st k
      go true b c d z h u e = dead NoSlot (inl z, tt)
      go false true c d z h u e = dead NoSlot (inr h, tt)
      go false false true d z h u e = dead FreeSlot (u, (neither z h, tt))
      go false false false true z h u e = live (found-live st k (record { some = omega arith; within = omega arith; used = omega arith }) e)
      go false false false false z h u e = dead OtherGeneration (e, (neither z h, (u, tt)))

  -- a live key is not dead
  live-not : (c : Cause) → LiveKey st k → found st k ≡ Err c → ⊥
  live-not c l e = let z : ◌≡◌ {A = ℕ} 0 1 = cc in absurd (omega arith)

  because_found : (c : Cause) → found st k ≡ Err c → Because st k c
  because_found c e = go which
    where
      go : Either st k → Because st k c
      go (live l) = absurd (live-not c l e)
      go (dead d b) = let f = found_because d b in let q : d ≡ c = cc in subst (Because st k) q b

  -- each cause is told exactly when its sentence holds, and that of no cause before it
  pub cause-is : (c : Cause) → (found st k ≡ Err c) ↔ Because st k c
  cause-is c = (because_found c, found_because c)

  -- no two at once
  pub causes_exclude : (c d : Cause) → Because st k c → Because st k d → c ≡ d
  causes_exclude c d p q = let f = found_because c p in let g = found_because d q in cc

  -- one of them for every key that is not live, and none for a live one
  pub causes_cover : (LiveKey st k → ⊥) → Some (Because st k) causes
  causes_cover n = go which
    where
      among : (c : Cause) → Because st k c → Some (Because st k) causes
      among NoSlot b = inl b
      among FreeSlot b = inr (inl b)
      among OtherGeneration b = inr (inr (inl b))

      go : Either st k → Some (Because st k) causes
      go (live l) = absurd (n l)
      go (dead c b) = among c b

  pub live-none : (c : Cause) → LiveKey st k → Because st k c → ⊥
  live-none c l b = live-not c l (found_because c b)

  -- a key is live exactly when no sentence holds
  live-is : LiveKey st k → None (Why st k) causes
  live-is l = (first, (second, ((λ w. live-none OtherGeneration l (w, (first, (second, tt)))), tt)))
    where
      first : Why st k NoSlot → ⊥
      first w = live-none NoSlot l (w, tt)

      second : Why st k FreeSlot → ⊥
      second w = live-none FreeSlot l (w, ((λ v. live-none NoSlot l (v, tt)), tt))

  is_live_lem : None (Why st k) causes → LiveKey st k
  is_live_lem n = go which
    where
      go : Either st k → LiveKey st k
      go (live l) = l
      go (dead NoSlot b) = absurd (n.0 b.0)
      go (dead FreeSlot b) = absurd (n.1.0 b.0)
      go (dead OtherGeneration b) = absurd (n.1.1.0 b.0)

  pub live_exactly : LiveKey st k ↔ None (Why st k) causes
  live_exactly = (live-is, is_live_lem)

-- ---- of several keys, the first that is dead

module _ (st : State) where
  pub first_dead_one : (ks : List Key) (c d : Cause) → FirstDead st c ks → FirstDead st d ks → c ≡ d
  first_dead_one [] c d x'' _ = elim x'' [ ]
  first_dead_one (k ∷ ks) c d (inl p) (inl q) = causes_exclude st k c d p q
  first_dead_one (k ∷ ks) c d (inl p) (inr q) = absurd (live-none st k c q.0 p)
  first_dead_one (k ∷ ks) c d (inr p) (inl q) = absurd (live-none st k d p.0 q)
  first_dead_one (k ∷ ks) c d (inr p) (inr q) = first_dead_one ks c d p.1 q.1

  -- none is dead exactly when all are live
  pub no_dead : (ks : List Key) (c : Cause) → All (LiveKey st) ks → FirstDead st c ks → ⊥
  no_dead [] c a d = d
  no_dead (k ∷ ks) c a (inl b) = live-none st k c a.0 b
  no_dead (k ∷ ks) c a (inr d) = no_dead ks c a.1 d.1

  -- Refusals 3: some key is not live
  pub dead-some : (ks : List Key) (c : Cause) → FirstDead st c ks → Some (λ k. LiveKey st k → ⊥) ks
  dead-some [] c x' = elim x' [ ]
  dead-some (k ∷ ks) c (inl b) = inl (λ l. live-none st k c l b)
  dead-some (k ∷ ks) c (inr d) = inr (dead-some ks c d.1)

  pub some-dead : (ks : List Key) → Some (λ k. LiveKey st k → ⊥) ks → Some (λ c. FirstDead st c ks) causes
  some-dead [] s = elim s [ ]
  some-dead (k ∷ ks) s = go (which st k) (λ r. some-dead ks r) s
    where
      among : (c : Cause) → Because st k c → Some (λ c. FirstDead st c (k ∷ ks)) causes
      among NoSlot b = inl (inl b)
      among FreeSlot b = inr (inl (inl b))
      among OtherGeneration b = inr (inr (inl (inl b)))

      later : LiveKey st k → Some (λ c. FirstDead st c ks) causes → Some (λ c. FirstDead st c (k ∷ ks)) causes
      later l (inl d) = inl (inr (l, d))
      later l (inr (inl d)) = inr (inl (inr (l, d)))
      later l (inr (inr (inl d))) = inr (inr (inl (inr (l, d))))
      later l (inr (inr (inr d))) = absurd d

      go : Either st k → (Some (λ k. LiveKey st k → ⊥) ks → Some (λ c. FirstDead st c ks) causes) → Some (λ k. LiveKey st k → ⊥) (k ∷ ks) → Some (λ c. FirstDead st c (k ∷ ks)) causes
      go (dead c b) f s = among c b
      go (live l) f (inl n) = absurd (n l)
      go (live l) f (inr s) = later l (f s)
