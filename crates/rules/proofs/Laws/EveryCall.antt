-- Every call leads from a good state and history to a good state and history.
use Rattle.std.specs.Prelude.{◌==◌}
use mathlib.Core.Path.{◌≡◌}
use mathlib.Core.Logic.{◌≢◌}
use mathlib.Core.List.{List, [], map}
use Prim.Native.Nat.{ℕ}
use lib.ListN.{length}
use Rattle.rules.specs.declared.Key.{Key}
use Rattle.rules.specs.Notation.{◌<?◌}
use Rattle.rules.specs.Tables.{frame_width, class_of, State, size_at, is_sealed, blank}
use Rattle.rules.specs.Reads
use Rattle.rules.specs.Slots.{is_full}
use Rattle.rules.specs.Runs
use Rattle.rules.specs.Undo
use Rattle.rules.specs.Drains
use Rattle.rules.specs.Drains.{is_short, key_width, record_width}
use Rattle.rules.specs.Seals
use Rattle.rules.specs.Seals.{seal_width}
use Rattle.rules.specs.Exchange
use Rattle.rules.specs.Exchange.{all_differ}
use Rattle.rules.specs.Compress
use Rattle.rules.specs.Compress.{pair_width}
use Rattle.rules.specs.WriteFile
use Rattle.rules.specs.WriteFile.{bytes_in}
use Rattle.rules.specs.Calls.{Call, len_surject, in_same_surject, get_element, get_shared, get_size, get_total, lookup, set_element, set_shared, check, new_run, insert, union, remove, remove_shared, list, drain, seal, drain_all, clear, undo, exchange, compress, compress_with, write_file, ruling}
use Rattle.rules.specs.History.{History}
use Rattle.rules.proofs.Laws.Lists.{all_map, all_image}
use Rattle.rules.proofs.Laws.Tests.{eq_is, is-not}
use Rattle.rules.proofs.Laws.Working.{view}
use Rattle.rules.proofs.Laws.Safe.{working}
use Rattle.rules.proofs.Laws.Steady.{unmarked}
use Rattle.rules.proofs.Laws.Good.{Good, live_of}
use Rattle.rules.proofs.Laws.Remembering.{good-undo}
use Rattle.rules.proofs.Laws.Recalls.{Recalls, good_undone}
use Rattle.rules.proofs.Laws.Rulings.{by-keys}
use Rattle.rules.proofs.Laws.Follows.{Follows, refused, done, either, on-live}
use Rattle.rules.proofs.Laws.Histories.NewRun.{good-new_run}
use Rattle.rules.proofs.Laws.Histories.Insert.{good-insert}
use Rattle.rules.proofs.Laws.Histories.Union.{good-first, good-second}
use Rattle.rules.proofs.Laws.Histories.Remove.{good-remove}
use Rattle.rules.proofs.Laws.Histories.Gone.{good-remove_shared}
use Rattle.rules.proofs.Laws.Histories.Drain.{good-run}
use Rattle.rules.proofs.Laws.Histories.Cleared.{good-clear, good-drain_all}
use Rattle.rules.proofs.Laws.Histories.Sets.{good-set_element, good-set_shared, good-exchange}
use Rattle.rules.proofs.Laws.Histories.Seal.{good-seal}
use Rattle.rules.proofs.Laws.Histories.Renamed.{good-compress}
use Rattle.rules.proofs.Laws.Histories.Ranked.{good_with}

module _ (st : State) (lent : List ℕ) (h : History) (G : Good st h) (M : Recalls st h) where
  union-follows : (j k : Key) → Follows h (union j k) (Runs.union st j k)
  unfolding Runs.union Runs.keeping
  union-follows j k =
      on-live h (union j k) st j _ (λ lj. on-live h (union j k) st k _ (λ lk.
      either h (union j k) (class_of st.elems j.slot == class_of st.elems k.slot) _ _ (λ e. refused) (λ e.
      let n = is-not (class_of st.elems j.slot ≡ class_of st.elems k.slot) (class_of st.elems j.slot == class_of st.elems k.slot) (eq_is (class_of st.elems j.slot) (class_of st.elems k.slot)) e in
      either h (union j k) (is_sealed st j.slot) _ _ (λ sj. refused) (λ sj. either h (union j k) (is_sealed st k.slot) _ _ (λ sk. refused) (λ sk.
      let mj = unmarked st G.ready j.slot sj in
      let mk = unmarked st G.ready k.slot sk in
      either h (union j k) (size_at st j.slot <? size_at st k.slot) _ _
      (λ f. done (good-undo _ _ (good-second st h G j k (live_of st j lj) (live_of st k lk) n mj mk [])))
      (λ f. done (good-undo _ _ (good-first st h G j k (live_of st j lj) (live_of st k lk) n mj mk []))))))))

  exchange-follows : (keys : List Key) (values : List ℕ) → Follows h (exchange keys values) (Exchange.exchange st keys values)
  unfolding Exchange.exchange
  exchange-follows keys values =
      by-keys (Follows h (exchange keys values)) (λ r. refused) st keys _ (λ xs a.
      let cs = map (class_of st.elems) xs in
      either h (exchange keys values) (all_differ cs) _ _
      (λ e. done (good-undo _ blank (good-exchange st h G cs values (all_image (class_of st.elems) (λ c. (view st).count c ≢ 0) xs (all_map (λ x l. (working st G.ready).class-live x l) xs a)))))
      (λ e. refused))

  pub call-follows : (c : Call) → Follows h c (ruling st lent c)
  unfolding Reads.len_surject Reads.in_same_surject Reads.get_element Reads.get_shared Reads.get_size Reads.get_total Reads.lookup Reads.set_element Reads.set_shared Runs.new_run Runs.insert Runs.remove Drains.remove_shared Drains.list Drains.drain Drains.drain_all Drains.clear Seals.seal Compress.compress Compress.compress_with Undo.undo WriteFile.write_file
  call-follows (len_surject k) = on-live h (len_surject k) st k _ (λ l. done G)
  call-follows (in_same_surject j k) = on-live h (in_same_surject j k) st j _ (λ i. on-live h (in_same_surject j k) st k _ (λ l. done G))
  call-follows (get_element k) = on-live h (get_element k) st k _ (λ l. done G)
  call-follows (lookup k) = on-live h (lookup k) st k _ (λ l. done G)
  call-follows (get_shared k) = on-live h (get_shared k) st k _ (λ l. done G)
  call-follows (get_size k) = on-live h (get_size k) st k _ (λ l. done G)
  call-follows (get_total k) = on-live h (get_total k) st k _ (λ l. done G)
  call-follows (set_element k payload) = on-live h (set_element k payload) st k _ (λ l. done (good-undo _ blank (good-set_element st h G k.slot payload (live_of st k l).live)))
  call-follows (set_shared k value) = on-live h (set_shared k value) st k _ (λ l. done (good-undo _ blank (good-set_shared st h G (class_of st.elems k.slot) value ((working st G.ready).class-live k.slot (live_of st k l).live))))
  call-follows check = done G
  call-follows write_file = either h write_file (length lent <? length (bytes_in 1 st)) _ _ (λ e. refused) (λ e. done G)
  call-follows (new_run payload value size) =
      either h (new_run payload value size) (is_full st.head.shared) _ _ (λ e. refused) (λ e.
      either h (new_run payload value size) (is_full st.head.elems) _ _ (λ f. refused) (λ f. done (good-new_run st h G payload value size f e)))
  call-follows (insert k payload size) = on-live h (insert k payload size) st k _ (λ l.
      either h (insert k payload size) (is_sealed st k.slot) _ _ (λ s. refused) (λ s.
      either h (insert k payload size) (is_full st.head.elems) _ _ (λ e. refused) (λ e. done (good-insert st h G k payload size (live_of st k l) (unmarked st G.ready k.slot s) e))))
  call-follows (union j k) = union-follows j k
  call-follows (remove k) = on-live h (remove k) st k _ (λ l. done (good-remove st h G k (live_of st k l) []))
  call-follows (remove_shared k) = on-live h (remove_shared k) st k _ (λ l. done (good-remove_shared st h G k (live_of st k l) []))
  call-follows (list k) = on-live h (list k) st k _ (λ l. either h (list k) (is_short lent (size_at st k.slot) key_width) _ _ (λ e. refused) (λ e. done G))
  call-follows (drain k) = on-live h (drain k) st k _ (λ l. either h (drain k) (is_short lent (size_at st k.slot) record_width) _ _ (λ e. refused) (λ e. done (good-run st h G k (live_of st k l))))
  call-follows (seal k) = on-live h (seal k) st k _ (λ l.
      either h (seal k) (is_sealed st k.slot) _ _ (λ s. refused) (λ s.
      either h (seal k) (is_short lent (size_at st k.slot) seal_width) _ _ (λ e. refused) (λ e. done (good-seal st h G k (live_of st k l) []))))
  call-follows drain_all = either h drain_all (is_short lent st.head.elems.live record_width) _ _ (λ e. refused) (λ e. done (good-drain_all st h G []))
  call-follows clear = done (good-clear st h G [])
  call-follows undo = either h undo (st.head.undo.kept == 0) _ _ (λ e. refused) (λ e. done (good_undone st h M (is-not (st.head.undo.kept ≡ 0) (st.head.undo.kept == 0) (eq_is st.head.undo.kept 0) e) []))
  call-follows (exchange keys values) = exchange-follows keys values
  call-follows (compress reset) = either h (compress reset) (is_short lent st.head.elems.capacity frame_width) _ _ (λ e. refused) (λ e. done (good-compress st h G reset []))
  call-follows (compress_with reset) = either h (compress_with reset) (is_short lent st.head.elems.live pair_width) _ _ (λ e. refused) (λ e. done (good_with st h G reset []))
