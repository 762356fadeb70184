-- The order of arrival makes no difference: the parts of the law, from what holds of every run (all but where a new entry stands).
use Rattle.std.proofs.Common.{◌≡◌, ℕ, ◌<◌, true, List, length, None, sym, ap, ◌∙◌}
use Rattle.ledger.specs.Kinds.{Kinds, Stamps, Ordered}
use Rattle.ledger.specs.Ledger.{Row, Ledger, row_of}
use Rattle.ledger.specs.Paths.{Placed, Item, in_order, items, reading, stands}
use Rattle.ledger.specs.Laws.{History, Call, Spot, Does, Inserted, SameTaken, ReadAlike, Keeps, StillRead, ReadBefore, ReadsByPaths, NoTwoInsertions, entry_at, counts, struck_items}
use Rattle.ledger.proofs.Members.{In}
use Rattle.ledger.proofs.Chains.{paths_agree, path_stays, stands_is}
use Rattle.ledger.proofs.Sorting.{lower, same_ascending}
use Rattle.ledger.proofs.Reading.{IsPlaced, at_place, standing_item, read_is, is_read, reading_ascends, reading_none_both, entry_is, placed_there, found, reads_by_paths, read_before_from, read_before_is}
use Rattle.ledger.proofs.Changes.{Grows}
use Rattle.ledger.proofs.Counting.{same_waits, same_waiting, same_lone}
use Rattle.ledger.proofs.Histories.{Sound, after_call, history_sound, fresh_not_held}

module _ (k : Stamps) (o : Ordered k) where
  pub sound_reads : (l : Ledger) → Sound k l → ReadsByPaths k l.rows
  sound_reads l s = reads_by_paths k o l.rows s.apart (λ r i. (s.good r i).stamp_reads)

  placed_stays : (l m : Ledger) → SameTaken l m → (x : Placed) → IsPlaced l.rows x → IsPlaced m.rows x
  placed_stays l m t x a = record {
    path_is = path_stays l.rows m.rows (λ s w h. sym (t.insertions s) ∙ h) a.path_is;
    node = a.node;
    written = sym (t.insertions x.item.stamp) ∙ a.written;
    entry_is = a.entry_is;
    struck_is = a.struck_is ∙ t.deletions x.item.stamp;
  }

  same_reading : (l m : Ledger) → Sound k l → Sound k m → SameTaken l m → reading k l.rows ≡ reading k m.rows
  same_reading l m s t same = ap items (same_ascending (lower k.kind.earlier) (in_order k l.rows) (in_order k m.rows)
      (reading_ascends k o l.rows s.apart held) (reading_ascends k o m.rows t.apart held') (reading_none_both k o l.rows s.apart held)
      (λ x i. is_read k o m.rows t.apart held' x (placed_stays l m same x (read_is k o l.rows s.apart held x i)))
      (λ x i. is_read k o l.rows s.apart held x (placed_stays m l same' x (read_is k o m.rows t.apart held' x i))))
    where
      held : (r : Row) → In r l.rows → k.form.reads r.stamp ≡ true
      held r i = (s.good r i).stamp_reads

      held' : (r : Row) → In r m.rows → k.form.reads r.stamp ≡ true
      held' r i = (t.good r i).stamp_reads

      same' : SameTaken m l
      same' = record { insertions = λ v. sym (same.insertions v); deletions = λ v. sym (same.deletions v) }

  pub sound_read_alike : (l m : Ledger) → Sound k l → Sound k m → SameTaken l m → ReadAlike k l m
  sound_read_alike l m s t same = record {
    reading_same = read;
    waiting_same = same_waits l.rows m.rows s.apart t.apart same.insertions same.deletions;
    counts_same = λ i. record { standing = length (read i); struck = struck_items (read i); waiting = waiting i; deletions = lone i };
  }
    where
      read : reading k l.rows ≡ reading k m.rows
      read = same_reading l m s t same

      waiting : (counts k l.rows).waiting ≡ (counts k m.rows).waiting
      waiting = same_waiting l.rows m.rows s.apart t.apart same.insertions same.deletions

      lone : (counts k l.rows).deletions ≡ (counts k m.rows).deletions
      lone = same_lone l.rows m.rows s.apart t.apart same.insertions same.deletions

  pub sound_keeps : (l m : Ledger) → Sound k l → Sound k m → Grows l.rows m.rows → Keeps k l m
  sound_keeps l m s t g = record { stays = stays; in_order = turns }
    where
      held : (r : Row) → In r l.rows → k.form.reads r.stamp ≡ true
      held r i = (s.good r i).stamp_reads

      held' : (r : Row) → In r m.rows → k.form.reads r.stamp ≡ true
      held' r i = (t.good r i).stamp_reads

      stays : (i : ℕ) → i < length (reading k l.rows) → StillRead (reading k m.rows) (entry_at (reading k l.rows) i)
      stays i h =
          let x : Placed = at_place k l.rows i in
          let a = placed_there k o l.rows s.apart held i h in
          let was : entry_at (reading k l.rows) i ≡ x.item = entry_is k o l.rows s.apart held i h in
          let f = found k o m.rows t.apart held' x.item.stamp x.steps a.node (path_stays l.rows m.rows g.insertions a.path_is) (g.insertions x.item.stamp a.node a.written) in
          let is : entry_at (reading k m.rows) f.0 ≡ (standing_item m.rows x.item.stamp x.steps a.node).item = entry_is k o m.rows t.apart held' f.0 f.1 ∙ ap (λ (y : Placed). y.item) f.2 in
          record {
            at = f.0;
            within = f.1;
            stamp_same = ap (λ (y : Item). y.stamp) is ∙ sym (ap (λ (y : Item). y.stamp) was);
            entry_same = ap (λ (y : Item). y.entry) is ∙ sym (ap (λ (y : Item). y.entry) was ∙ a.entry_is);
            struck_kept = λ e. ap (λ (y : Item). y.struck) is ∙ g.deletions x.item.stamp (sym a.struck_is ∙ sym (ap (λ (y : Item). y.struck) was) ∙ e);
          }

      turns : (u v : List ℕ) → ReadBefore (reading k l.rows) u v → ReadBefore (reading k m.rows) u v
      turns u v b =
          let p = read_before_is k o l.rows s.apart held u v b in
          read_before_from k o m.rows t.apart held' u v p.0 p.1 (path_stays l.rows m.rows g.insertions p.2) (path_stays l.rows m.rows g.insertions p.3) p.4

  pub sound_same_order : (l m : Ledger) → Sound k l → Sound k m → NoTwoInsertions l m → (u v : List ℕ) → stands m.rows u ≡ true → stands m.rows v ≡ true
      → ReadBefore (reading k l.rows) u v → ReadBefore (reading k m.rows) u v
  sound_same_order l m s t agree u v su sv b =
      let p = read_before_is k o l.rows s.apart (λ r i. (s.good r i).stamp_reads) u v b in
      let pu = stands_is m.rows u su in
      let pv = stands_is m.rows v sv in
      let eu : p.0 ≡ pu.0 = paths_agree l.rows m.rows agree p.2 pu.1 in
      let ev : p.1 ≡ pv.0 = paths_agree l.rows m.rows agree p.3 pv.1 in
      read_before_from k o m.rows t.apart (λ r i. (t.good r i).stamp_reads) u v pu.0 pv.0 pu.1 pv.1 (rw (eu, ev) at p.4)

module _ (k : Kinds) (o : Ordered k.stamps) where
  pub reads : (a : History k) → ReadsByPaths k.stamps a.ledger.rows
  reads a = sound_reads k.stamps o a.ledger (history_sound k a)

  pub read_alike : (a b : History k) → SameTaken a.ledger b.ledger → ReadAlike k.stamps a.ledger b.ledger
  read_alike a b = sound_read_alike k.stamps o a.ledger b.ledger (history_sound k a) (history_sound k b)

  pub keeps : (a : History k) (c : Call) (m : Ledger) → Does k a.ledger c m → Keeps k.stamps a.ledger m
  keeps a c m d = let f = after_call k a.ledger m c (history_sound k a) d in sound_keeps k.stamps o a.ledger m (history_sound k a) f.sound f.grows

  pub fresh_stamp : (a : History k) (spot : Spot) (vs : List ℕ) (m : Ledger) (i : Inserted k a.ledger m spot vs) → row_of i.stamp a.ledger.rows ≡ None
  fresh_stamp a spot vs m i = fresh_not_held k.stamps a.ledger i.stamp i.fresh_stamp

  pub same_order : (a b : History k) → NoTwoInsertions a.ledger b.ledger → (s t : List ℕ) → stands b.ledger.rows s ≡ true → stands b.ledger.rows t ≡ true
      → ReadBefore (reading k.stamps a.ledger.rows) s t → ReadBefore (reading k.stamps b.ledger.rows) s t
  same_order a b = sound_same_order k.stamps o a.ledger b.ledger (history_sound k a) (history_sound k b)
