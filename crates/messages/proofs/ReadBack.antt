-- A message put into words reads back as the same message.
use Rattle.std.proofs.Common.{◌≡◌, ℕ, ◌+◌, ◌/◌, ◌%◌, ◌^◌, ◌<◌, ◌≤◌, Bool, true, false, cond, not, ◌&&◌, eqb, List, [], ◌∷◌, ◌++◌, map, length, take, drop, replicate, Some, None, Option, sym, refl, ap, ◌∙◌, arith}
use Rattle.std.proofs.lemmas.List.{append_assoc, append-nil, drop_at, get_or_at, length-append, length-replicate, take_at}
use Rattle.std.proofs.lemmas.Bool.{and_from, and_parts, and_right, eq-eqb, lt-ltb, not_from_false, or_left, or_right}
use Rattle.words.specs.Answers.{answer, ask, ask_fault}
use Rattle.words.specs.Answers.Answer.{granted}
use Rattle.words.specs.Forms.{Form, Small, same_values}
use Rattle.words.specs.Layout.{value_of, word}
use Rattle.messages.specs.FromWords.{at, bad_entry, bad_parent, bad_word, count_in, entry_at, entry_in, fits, has_head, has_tag, head_in, inserts, insertion_tags, kinds_match, length_in, lengths_match, message_in, names_parent, operates, operation_in, own_in, parent_at, parent_in, place_at, place_in, read_answer, side_in, tags_in, unread, values_at}
use Rattle.messages.specs.InWords.{head_value, in_words, tagged, under_itself}
use Rattle.messages.specs.Model.{Said, said, side_number, tag_number}
use Rattle.messages.specs.declared.model.Message.{Message}
use Rattle.messages.specs.declared.model.Message.TheVariants.{Insertion, Deletion}
use Rattle.messages.specs.declared.model.Place.{Place}
use Rattle.messages.specs.declared.model.Place.TheVariants.{Ground, Under}
use Rattle.messages.specs.declared.model.Side.{Side}
use Rattle.messages.specs.declared.model.Side.TheVariants.{Left, Right}
use Rattle.messages.specs.declared.model.Tag.{Tag}
use Rattle.messages.specs.declared.model.Tag.TheVariants.{OwnStamp, ParentStamp, OnGround, OnSide, EntryValue}
use Rattle.messages.proofs.Fitting.{fit_then, first_fits, no_place, tags_fit, values_back}
use Rattle.messages.proofs.Heads.{head_count, head_entries, head_operation, head_small, head_stamps, tag_back, value_back}
use Rattle.messages.proofs.Sizes.{tagged_length}

-- what the laws of a kind with a word form give
pub record Lawful (f : Form) (most : ℕ) : Type 0 where
  pub few : f.count ≤ most
  pub numbered : f.number ≤ 255
  pub sized : (vs : List ℕ) → f.reads vs ≡ true → length vs ≡ f.count
  pub small : (vs : List ℕ) → f.reads vs ≡ true → Small vs

-- each part of the message reads
abbrev PlaceReads : Form → Place (List ℕ) → Type 0
PlaceReads stamps Ground = Unit {0}
PlaceReads stamps (Under side parent) = stamps.reads parent ≡ true

abbrev PartsRead : Form → Form → Said → Type 0
PartsRead stamps entries (Insertion s pl e) = (stamps.reads s ≡ true) × PlaceReads stamps pl × (entries.reads e ≡ true)
PartsRead stamps entries (Deletion s) = stamps.reads s ≡ true

all_pass : {X : Type 0} (a b c : Bool) (d e f g : Option ℕ) (x y : X) → a ≡ true → b ≡ true → c ≡ true → d ≡ None → e ≡ None → f ≡ None → g ≡ None → x ≡ y
    → answer (ask 3 a ∷ ask 4 b ∷ ask 5 c ∷ ask_fault 6 d ∷ ask_fault 7 e ∷ ask_fault 7 f ∷ ask_fault 8 g ∷ []) x ≡ granted y
all_pass a b c d e f g x y pa pb pc pd pe pf pg px =
    λ i. answer (ask 3 (pa i) ∷ ask 4 (pb i) ∷ ask 5 (pc i) ∷ ask_fault 6 (pd i) ∷ ask_fault 7 (pe i) ∷ ask_fault 7 (pf i) ∷ ask_fault 8 (pg i) ∷ []) (px i)

-- ---- what is found at a place
-- the values of a thing whose words stand behind a front
values_found : (front rest ws : List ℕ) (t : Tag) (vs : List ℕ) (i k : ℕ) → ws ≡ front ++ (tagged t vs ++ rest) → length front ≡ i → length vs ≡ k → Small vs → values_at ws i k ≡ vs
values_found front rest ws t vs i k e f l s =
    ap (λ z. map value_of (take k (drop i z))) e
    ∙ ap (λ z. map value_of (take k z)) (drop_at front (tagged t vs ++ rest) i f)
    ∙ ap (map value_of) (take_at (tagged t vs) rest k (tagged_length t vs ∙ l))
    ∙ values_back t vs s

-- ---- the head
module _ (sf ef : Form) (most least : ℕ) (sl : Lawful sf most) (el : Lawful ef least) (op : ℕ) (ops : op ≤ 15) (b : List ℕ) (long : length b ≤ 255) where
  abbrev headed : List ℕ
  headed = word 1 (head_value op sf.number ef.number (length b)) ∷ b

  small : head_value op sf.number ef.number (length b) < 2 ^ 28
  small = head_small op sf.number ef.number (length b) ops sl.numbered el.numbered long

  value : head_in headed ≡ head_value op sf.number ef.number (length b)
  value = value_back 1 (head_value op sf.number ef.number (length b)) small

  head_found : has_head headed ≡ true
  head_found = and_from _ _ (lt-ltb 0 (length headed) (omega arith)) (eq-eqb _ 1 (tag_back 1 (head_value op sf.number ef.number (length b)) small))

  operation_found : operation_in headed ≡ op
  operation_found = ap (λ v. v / 2 ^ 24) value ∙ head_operation op sf.number ef.number (length b) ops sl.numbered el.numbered long

  kinds_found : kinds_match sf ef headed ≡ true
  kinds_found = and_from _ _
      (eq-eqb _ _ (ap (λ v. v / 2 ^ 16 % 2 ^ 8) value ∙ head_stamps op sf.number ef.number (length b) ops sl.numbered el.numbered long))
      (eq-eqb _ _ (ap (λ v. v / 2 ^ 8 % 2 ^ 8) value ∙ head_entries op sf.number ef.number (length b) ops sl.numbered el.numbered long))

  count_found : count_in headed ≡ length b
  count_found = ap (λ v. v % 2 ^ 8) value ∙ head_count op sf.number ef.number (length b) ops sl.numbered el.numbered long

  lengths_found : (n m : ℕ) → 1 + length b ≡ length_in n m headed → lengths_match n m headed ≡ true
  lengths_found n m e =
      let c = count_found in
      let f : length headed ≡ 1 + count_in headed = omega arith in
      let g : length headed ≡ length_in n m headed = omega arith in
      and_from _ _ (eq-eqb _ _ f) (eq-eqb _ _ g)

-- ---- a deletion
read_found : (f : Form) (i : ℕ) (vs ws : List ℕ) → ws ≡ vs → f.reads vs ≡ true → unread f i ws ≡ None
read_found f i vs ws e r = ap (λ b. cond b None (Some i)) (ap f.reads e ∙ r)

deletion_back : (sf ef : Form) (most least : ℕ) → Lawful sf most → Lawful ef least → most ≤ 255 → (s : List ℕ) → sf.reads s ≡ true
    → read_answer sf ef (in_words sf ef (Deletion s)) ≡ granted (Deletion s)
deletion_back sf ef most least sl el few s r =
    let n = sf.count in
    let m = ef.count in
    let b = tagged OwnStamp s in
    let size = sl.sized s r in
    let lt = tagged_length OwnStamp s in
    let long : length b ≤ 255 = omega (arith, sl.few) in
    let ws = in_words sf ef (Deletion s) in
    let op = operation_found sf ef most least sl el 2 (omega arith) b long in
    let ins : inserts ws ≡ false = ap (λ k. eqb k 1) op in
    let own : own_in n ws ≡ s = values_found (at ws 0 ∷ []) [] ws OwnStamp s 1 n (ap (λ z. at ws 0 ∷ z) (sym (append-nil b))) refl size (sl.small s r) in
    all_pass (operates ws) (kinds_match sf ef ws) (lengths_match n m ws) (bad_word 1 (tags_in n m ws) b) (unread sf 1 (own_in n ws)) (bad_parent sf ws) (bad_entry sf ef ws) (message_in n m ws) (Deletion s)
    (and_from _ _ (head_found sf ef most least sl el 2 (omega arith) b long) (or_right _ _ (eq-eqb _ 2 op)))
    (kinds_found sf ef most least sl el 2 (omega arith) b long)
    (lengths_found sf ef most least sl el 2 (omega arith) b long n m (let e : 1 + length b ≡ 1 + n = omega arith in e ∙ ap (λ c. cond c (entry_at n ws + m) (1 + n)) (sym ins)))
    (ap (λ c. bad_word 1 (cond c (insertion_tags n m ws) (replicate n OwnStamp)) b) ins ∙ tags_fit 1 OwnStamp (λ _. refl) s n (sl.small s r) size)
    (read_found sf 1 s (own_in n ws) own r)
    (ap (λ c. cond (c && names_parent n ws) (cond (sf.reads (parent_in n ws) && not (same_values (parent_in n ws) (own_in n ws))) None (Some (parent_at n))) None) ins)
    (ap (λ c. cond c (unread ef (entry_at n ws) (entry_in n m ws)) None) ins)
    (ap (λ c. cond c (Insertion (own_in n ws) (place_in n ws) (entry_in n m ws)) (Deletion (own_in n ws))) ins ∙ ap Deletion own)

-- ---- an insertion
side_back : (d : Side) → side_in (value_of (word (tag_number OnSide) (side_number d))) ≡ d
side_back Left = refl
side_back Right = refl

side_fits : (d : Side) → fits OnSide (word (tag_number OnSide) (side_number d)) ≡ true
side_fits Left = refl
side_fits Right = refl

-- the words of an insertion, with the first word of its place apart
module _ (sf ef : Form) (most least : ℕ) (sl : Lawful sf most) (el : Lawful ef least) (few : most + (most + least) ≤ 250)
    (s e : List ℕ) (rs : sf.reads s ≡ true) (re : ef.reads e ≡ true) (p : ℕ) (q : List ℕ) where
  abbrev rest : List ℕ
  rest = tagged OwnStamp s ++ ((p ∷ q) ++ tagged EntryValue e)

  abbrev inserted : List ℕ
  inserted = word 1 (head_value 1 sf.number ef.number (length rest)) ∷ rest

  rest_length : length rest ≡ sf.count + ((1 + length q) + ef.count)
  rest_length = omega (arith, length-append (tagged OwnStamp s) ((p ∷ q) ++ tagged EntryValue e), length-append (p ∷ q) (tagged EntryValue e), tagged_length OwnStamp s, tagged_length EntryValue e, sl.sized s rs, el.sized e re)

  place_found : at inserted (place_at sf.count) ≡ p
  place_found =
      let l : length (at inserted 0 ∷ tagged OwnStamp s) ≡ 1 + sf.count = omega (arith, tagged_length OwnStamp s, sl.sized s rs) in
      get_or_at (at inserted 0 ∷ tagged OwnStamp s) p (q ++ tagged EntryValue e) 0 (1 + sf.count) l

  own_found : own_in sf.count inserted ≡ s
  own_found = values_found (at inserted 0 ∷ []) ((p ∷ q) ++ tagged EntryValue e) inserted OwnStamp s 1 sf.count refl refl (sl.sized s rs) (sl.small s rs)

  entry_found : (i : ℕ) → i ≡ 2 + sf.count + length q → values_at inserted i ef.count ≡ e
  entry_found i k =
      let front = at inserted 0 ∷ (tagged OwnStamp s ++ (p ∷ q)) in
      let l : length front ≡ i = omega (arith, length-append (tagged OwnStamp s) (p ∷ q), tagged_length OwnStamp s, sl.sized s rs) in
      values_found front [] inserted EntryValue e i ef.count
      (ap (λ z. at inserted 0 ∷ z) (sym (append_assoc (tagged OwnStamp s) (p ∷ q) (tagged EntryValue e)) ∙ ap (λ z. (tagged OwnStamp s ++ (p ∷ q)) ++ z) (sym (append-nil (tagged EntryValue e)))))
      l (el.sized e re) (el.small e re)

  tags_found : (ts : List Tag) → length ts ≡ length (p ∷ q) → bad_word (1 + length (replicate sf.count OwnStamp)) ts (p ∷ q) ≡ None
      → bad_word 1 (replicate sf.count OwnStamp ++ (ts ++ replicate ef.count EntryValue)) rest ≡ None
  tags_found ts l f =
      let k = length-replicate sf.count OwnStamp in
      let n : length (replicate sf.count OwnStamp) ≡ length (tagged OwnStamp s) = omega (arith, tagged_length OwnStamp s, sl.sized s rs) in
      fit_then 1 (replicate sf.count OwnStamp) (ts ++ replicate ef.count EntryValue) (tagged OwnStamp s) ((p ∷ q) ++ tagged EntryValue e) n
      (tags_fit 1 OwnStamp (λ _. refl) s sf.count (sl.small s rs) (sl.sized s rs))
      (fit_then _ ts (replicate ef.count EntryValue) (p ∷ q) (tagged EntryValue e) l f
      (tags_fit _ EntryValue (λ _. refl) e ef.count (el.small e re) (el.sized e re)))

  -- once the place is known
  insertion_back : (named : Bool) (pl : Place (List ℕ)) (ts : List Tag) → length q ≤ sf.count → length ts ≡ length (p ∷ q)
      → names_parent sf.count inserted ≡ named
      → cond named ((2 + sf.count) + sf.count) (2 + sf.count) ≡ 2 + sf.count + length q
      → cond named (OnSide ∷ replicate sf.count ParentStamp) (OnGround ∷ []) ≡ ts
      → bad_word (1 + length (replicate sf.count OwnStamp)) ts (p ∷ q) ≡ None
      → bad_parent sf inserted ≡ None → place_in sf.count inserted ≡ pl
      → read_answer sf ef inserted ≡ granted (Insertion s pl e)
  insertion_back named pl ts short lts np ea tt' bw bp pi =
      let n = sf.count in
      let m = ef.count in
      let size = rest_length in
      let long : length rest ≤ 255 = omega (arith, sl.few, el.few) in
      let op = operation_found sf ef most least sl el 1 (omega arith) rest long in
      let ins : inserts inserted ≡ true = ap (λ k. eqb k 1) op in
      let at_entry : entry_at n inserted ≡ 2 + n + length q = ap (λ b. cond b ((2 + n) + n) (2 + n)) np ∙ ea in
      let entry = entry_found (entry_at n inserted) at_entry in
      let all : 1 + length rest ≡ entry_at n inserted + m = omega arith in
      all_pass (operates inserted) (kinds_match sf ef inserted) (lengths_match n m inserted) (bad_word 1 (tags_in n m inserted) rest) (unread sf 1 (own_in n inserted)) (bad_parent sf inserted) (bad_entry sf ef inserted) (message_in n m inserted) (Insertion s pl e)
      (and_from _ _ (head_found sf ef most least sl el 1 (omega arith) rest long) (or_left _ _ ins))
      (kinds_found sf ef most least sl el 1 (omega arith) rest long)
      (lengths_found sf ef most least sl el 1 (omega arith) rest long n m (all ∙ ap (λ c. cond c (entry_at n inserted + m) (1 + n)) (sym ins)))
      (ap (λ c. bad_word 1 (cond c (insertion_tags n m inserted) (replicate n OwnStamp)) rest) ins
      ∙ ap (λ us. bad_word 1 (replicate n OwnStamp ++ (us ++ replicate m EntryValue)) rest) (ap (λ b. cond b (OnSide ∷ replicate n ParentStamp) (OnGround ∷ [])) np ∙ tt')
      ∙ tags_found ts lts bw)
      (read_found sf 1 s (own_in n inserted) own_found rs)
      bp
      (ap (λ c. cond c (unread ef (entry_at n inserted) (entry_in n m inserted)) None) ins ∙ read_found ef (entry_at n inserted) e (entry_in n m inserted) entry re)
      (ap (λ c. cond c (Insertion (own_in n inserted) (place_in n inserted) (entry_in n m inserted)) (Deletion (own_in n inserted))) ins
      ∙ (λ i. Insertion (own_found i) (pi i) (entry i)))

cond_same : (b : Bool) → cond {A = Option ℕ} b None None ≡ None
cond_same true = refl
cond_same false = refl

no_fault_apart : (b : Bool) (i : ℕ) → cond b (Some i) None ≡ None → b ≡ false
no_fault_apart true i e = no_place i e
no_fault_apart false i e = refl

ground_back : (sf ef : Form) (most least : ℕ) → Lawful sf most → Lawful ef least → most + (most + least) ≤ 250 → (s e : List ℕ) → sf.reads s ≡ true → ef.reads e ≡ true
    → read_answer sf ef (in_words sf ef (Insertion s Ground e)) ≡ granted (Insertion s Ground e)
ground_back sf ef most least sl el few s e rs re =
    let n = sf.count in
    let p = word 4 0 in
    let ws = in_words sf ef (Insertion s Ground e) in
    let named : names_parent n ws ≡ false = ap (has_tag OnSide) (place_found sf ef most least sl el few s e rs re p []) in
    insertion_back sf ef most least sl el few s e rs re p [] false Ground (OnGround ∷ []) (omega arith) refl named (omega arith) refl refl
    (ap (λ c. cond c (cond (sf.reads (parent_in n ws) && not (same_values (parent_in n ws) (own_in n ws))) None (Some (parent_at n))) None) (and_right (inserts ws) (names_parent n ws) named))
    (ap (λ c. cond c (Under (side_in (value_of (at ws (place_at n)))) (parent_in n ws)) Ground) named)

under_back : (sf ef : Form) (most least : ℕ) → Lawful sf most → Lawful ef least → most + (most + least) ≤ 250 → (s : List ℕ) (d : Side) (par e : List ℕ) → sf.reads s ≡ true → sf.reads par ≡ true → ef.reads e ≡ true
    → same_values par s ≡ false
    → read_answer sf ef (in_words sf ef (Insertion s (Under d par) e)) ≡ granted (Insertion s (Under d par) e)
under_back sf ef most least sl el few s d par e rs rp re apart =
    let n = sf.count in
    let p = word 5 (side_number d) in
    let q = tagged ParentStamp par in
    let size = sl.sized par rp in
    let lq = tagged_length ParentStamp par in
    let lr = length-replicate n ParentStamp in
    let ws = in_words sf ef (Insertion s (Under d par) e) in
    let h = at ws 0 in
    let place = place_found sf ef most least sl el few s e rs re p q in
    let named : names_parent n ws ≡ true = ap (has_tag OnSide) place ∙ (and_parts _ _ (side_fits d)).0 in
    let front = h ∷ (tagged OwnStamp s ++ (p ∷ [])) in
    let lf : length front ≡ parent_at n = omega (arith, length-append (tagged OwnStamp s) (p ∷ []), tagged_length OwnStamp s, sl.sized s rs) in
    let parent : parent_in n ws ≡ par = values_found front (tagged EntryValue e) ws ParentStamp par (parent_at n) n (ap (λ z. h ∷ z) (sym (append_assoc (tagged OwnStamp s) (p ∷ []) (q ++ tagged EntryValue e)))) lf size (sl.small par rp) in
    let own = own_found sf ef most least sl el few s e rs re p q in
    let reads : (sf.reads (parent_in n ws) && not (same_values (parent_in n ws) (own_in n ws))) ≡ true =
    and_from _ _ (ap sf.reads parent ∙ rp) (not_from_false _ ((λ i. same_values (parent i) (own i)) ∙ apart)) in
    insertion_back sf ef most least sl el few s e rs re p q true (Under d par) (OnSide ∷ replicate n ParentStamp) (omega arith) (omega arith) named (omega arith) refl
    (first_fits _ OnSide (replicate n ParentStamp) p q (side_fits d) ∙ tags_fit _ ParentStamp (λ _. refl) par n (sl.small par rp) size)
    ((λ i. cond (inserts ws && names_parent n ws) (cond (reads i) None (Some (parent_at n))) None) ∙ cond_same (inserts ws && names_parent n ws))
    (ap (λ c. cond c (Under (side_in (value_of (at ws (place_at n)))) (parent_in n ws)) Ground) named
    ∙ (λ i. Under (side_in (value_of (place i))) (parent i)) ∙ ap (λ x. Under x par) (side_back d))

pub reads_back : (sf ef : Form) (most least : ℕ) → Lawful sf most → Lawful ef least → most + (most + least) ≤ 250 → (m : Said) → PartsRead sf ef m → under_itself sf m ≡ None
    → read_answer sf ef (in_words sf ef m) ≡ granted m
reads_back sf ef most least sl el few (Insertion s Ground e) r apart = ground_back sf ef most least sl el few s e r.0 r.2
reads_back sf ef most least sl el few (Insertion s (Under d p) e) r apart = under_back sf ef most least sl el few s d p e r.0 r.1 r.2 (no_fault_apart (same_values p s) (2 + sf.count) apart)
reads_back sf ef most least sl el few (Deletion s) r apart = deletion_back sf ef most least sl el (omega arith) s r

-- the parts of a message of things that are there read
pub parts_read : {S E : Type 0} (sf ef : Form) (sv : S → List ℕ) (ev : E → List ℕ) → ((x : S) → sf.reads (sv x) ≡ true) → ((x : E) → ef.reads (ev x) ≡ true) → (m : Message S E) → PartsRead sf ef (said sv ev m)
parts_read sf ef sv ev sr er (Insertion s Ground e) = (sr s, tt, er e)
parts_read sf ef sv ev sr er (Insertion s (Under d p) e) = (sr s, sr p, er e)
parts_read sf ef sv ev sr er (Deletion s) = sr s
