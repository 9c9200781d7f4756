-- A frame leaves its class: the columns of the shared table after it, in both cases.
use mathlib.Core.Path.{◌≡◌, refl, sym}
use mathlib.Core.Logic.{◌≢◌}
use Prim.Native.Nat.{ℕ, ◌-◌}
use native.Mathlib.Omega.{arith}
use native.Mathlib.Decide.{ℕ_discrete}
use Rattle.rules.specs.declared.Pool.{Pool}
use Rattle.rules.specs.Slots.{freed}
use Rattle.rules.proofs.Laws.Columns.{upd, upd_same, upd_other}
use Rattle.rules.proofs.Laws.Pools.{Pooled, keep, free}
use Rattle.rules.proofs.Laws.Marked.{Marked, marked-count, marked-zero}
use Rattle.rules.proofs.Laws.Working.{View, Working}
use Rattle.rules.proofs.Laws.Links.{live_ne}

-- what removal asks of the columns `k`, `w`, `z`, `m` of the shared table and its pool
pub record Counted (v : View) (x : ℕ) (k w z m : ℕ → ℕ) (r : Pool) : Type 0 where
  pub shared : Pooled r k z
  pub value-zero : (c : ℕ) → k c ≡ 0 → w c ≡ 0
  pub chain-zero : (c : ℕ) → k c ≢ 0 → z c ≡ 0
  pub marks : Marked m k
  pub other : (c : ℕ) → c ≢ v.class x → k c ≡ v.count c
  pub mine : k (v.class x) ≡ v.count (v.class x) - 1

-- it goes on: the count falls by one
module _ (v : View) (x : ℕ) (S : Working v) (hx : v.gen x ≢ 0) where
  pub goes_on : v.count (v.class x) ≢ 1 → Counted v x (upd v.count (v.class x) (v.count (v.class x) - 1)) v.value v.chain v.mark v.head.shared
  goes_on many =
      let l = S.class-live x hx in
      record {
        shared = keep S.shared (v.class x) (v.count (v.class x) - 1) l (omega arith) v.chain (λ s e. refl);
        value-zero = λ c. value-zero c (ℕ_discrete c (v.class x));
        chain-zero = λ c. chain-zero c (ℕ_discrete c (v.class x));
        marks = marked-count v.mark v.count S.marks (v.class x) (v.count (v.class x) - 1) (omega (arith, l));
        other = λ c e. upd_other v.count (v.class x) (v.count (v.class x) - 1) c e;
        mine = upd_same v.count (v.class x) (v.count (v.class x) - 1);
      }
    where
      value-zero : (c : ℕ) → Dec (c ≡ v.class x) → upd v.count (v.class x) (v.count (v.class x) - 1) c ≡ 0 → v.value c ≡ 0
      value-zero c (yes e) h = absurd (omega (arith, S.class-live x hx, rw (e, upd_same) at h))
      value-zero c (no e) h = S.value-zero c (rw upd_other at h)

      chain-zero : (c : ℕ) → Dec (c ≡ v.class x) → upd v.count (v.class x) (v.count (v.class x) - 1) c ≢ 0 → v.chain c ≡ 0
      chain-zero c (yes e) h = rw e (S.chain-zero (v.class x) (S.class-live x hx))
      chain-zero c (no e) h = S.chain-zero c (rw upd_other at h)

  -- the last frame: the class slot is freed
  pub last_one : v.count (v.class x) ≡ 1
      → Counted v x (upd v.count (v.class x) 0) (upd v.value (v.class x) 0) (upd v.chain (v.class x) v.head.shared.root) (upd v.mark (v.class x) 0) (freed v.head.shared (v.class x))
  last_one one =
      let l = S.class-live x hx in
      record {
        shared = free S.shared (v.class x) l (upd v.chain (v.class x) v.head.shared.root) (upd_same v.chain (v.class x) v.head.shared.root)
            (λ s e. upd_other v.chain (v.class x) v.head.shared.root s (λ q. live_ne v.count l e (sym q)));
        value-zero = λ c. value-zero c (ℕ_discrete c (v.class x));
        chain-zero = λ c. chain-zero c (ℕ_discrete c (v.class x));
        marks = marked-zero v.mark v.count S.marks (v.class x) 0;
        other = λ c e. upd_other v.count (v.class x) 0 c e;
        mine = rw upd_same (omega arith);
      }
    where
      value-zero : (c : ℕ) → Dec (c ≡ v.class x) → upd v.count (v.class x) 0 c ≡ 0 → upd v.value (v.class x) 0 c ≡ 0
      value-zero c (yes e) h = rw (e, upd_same)
      value-zero c (no e) h = rw upd_other (S.value-zero c (rw upd_other at h))

      chain-zero : (c : ℕ) → Dec (c ≡ v.class x) → upd v.count (v.class x) 0 c ≢ 0 → upd v.chain (v.class x) v.head.shared.root c ≡ 0
      chain-zero c (yes e) h = absurd (h (rw (e, upd_same)))
      chain-zero c (no e) h = rw upd_other (S.chain-zero c (rw upd_other at h))
