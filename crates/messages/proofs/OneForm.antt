-- Words that read as a message are the words of that message.
use Rattle.std.proofs.Common.{◌≡◌, ℕ, zero, suc, ◌+◌, ◌<◌, Bool, true, false, cond, ◌||◌, eqb, List, [], ◌∷◌, ◌++◌, map, length, take, drop, replicate, IfOk, Some, None, Ok, Err, Option, Result, sym, refl, ap, ◌∙◌, arith}
use Rattle.std.proofs.lemmas.List.{append-nil, drop-drop, drop_more, length-drop, take_all, take-append-drop}
use Rattle.std.proofs.lemmas.Bool.{and_parts, eqb-true, leb-true, ltb-true}
use Rattle.std.proofs.lemmas.Bool.Decides.{nat_tests}
use Rattle.words.specs.declared.refusals.Refusal.{Refusal}
use Rattle.words.specs.Answers.{Question, answer, ask, ask_fault, told}
use Rattle.words.specs.Answers.Answer.{granted}
use Rattle.words.specs.Forms.{Form}
use Rattle.words.specs.Layout.{value_of, word}
use Rattle.messages.specs.FromWords.{at, bad_entry, bad_parent, bad_word, body_questions, count_in, entry_at, entry_in, entry_kind_in, fits, has_head, head_in, inserts, insertion_tags, kinds_match, lengths_match, message_in, names_parent, operates, operation_in, own_in, parent_in, place_in, place_tags, read_answer, side_in, stamp_kind_in, tags_in, unread, values_at}
use Rattle.messages.specs.InWords.{body, head_value, in_words, place_words, tagged}
use Rattle.messages.specs.Model.{Said, said, side_number}
use Rattle.messages.specs.declared.model.Message.{Message}
use Rattle.messages.specs.declared.model.Message.TheVariants.{Insertion, Deletion}
use Rattle.messages.specs.declared.model.Place.TheVariants.{Ground, Under}
use Rattle.messages.specs.declared.model.Side.TheVariants.{Left, Right}
use Rattle.messages.specs.declared.model.Tag.{Tag}
use Rattle.messages.specs.declared.model.Tag.TheVariants.{OwnStamp, ParentStamp, OnGround, OnSide, EntryValue}
use Rattle.messages.proofs.Fitting.{first_fitting, fitting_word, no_place}
use Rattle.messages.proofs.Heads.{head_whole, word_back}

-- ---- a question that was passed, and those after it
pass : {X : Type 0} (n : ℕ) (b : Bool) (qs : List Question) (x y : X) → granted y ≡ answer (ask n b ∷ qs) x → (b ≡ true) × (granted y ≡ answer qs x)
pass n true qs x y e = (refl, e)
pass n false qs x y e = let gone : ◌≡◌ {A = ℕ} 0 1 = cc in absurd (omega arith)

pass_fault : {X : Type 0} (n : ℕ) (o : Option ℕ) (qs : List Question) (x y : X) → granted y ≡ answer (ask_fault n o ∷ qs) x → (o ≡ None) × (granted y ≡ answer qs x)
pass_fault n None qs x y e = (refl, e)
pass_fault n (Some i) qs x y e = let gone : ◌≡◌ {A = ℕ} 0 1 = cc in absurd (omega arith)

-- ---- words of one tag, and those after them
split : (i k : ℕ) (t : Tag) (us : List Tag) (ws : List ℕ) → bad_word i (replicate k t ++ us) ws ≡ None
    → (take k ws ≡ tagged t (map value_of (take k ws))) × ((j : ℕ) × (bad_word j us (drop k ws) ≡ None))
split i zero t us ws e = (refl, (i, e))
split i (suc k) t us [] e = no_place i e
split i (suc k) t us (w ∷ ws) e =
    let p = first_fitting i t (replicate k t ++ us) w ws e in
    let r = split (i + 1) k t us ws p.1 in
    ((λ j. (fitting_word t w p.0).0 j ∷ r.0 j), r.1)

-- the words from a place on begin with the words of a thing
begins : (i k at' : ℕ) (t : Tag) (us : List Tag) (ws : List ℕ) → bad_word i (replicate k t ++ us) (drop at' ws) ≡ None
    → (drop at' ws ≡ tagged t (values_at ws at' k) ++ drop (at' + k) ws) × ((j : ℕ) × (bad_word j us (drop (at' + k) ws) ≡ None))
begins i k at' t us ws e =
    let r = split i k t us (drop at' ws) e in (
      sym (take-append-drop k (drop at' ws)) ∙ (λ j. r.0 j ++ drop-drop k at' ws j),
      (r.1.0, ap (λ z. bad_word r.1.0 us z) (sym (drop-drop k at' ws)) ∙ r.1.1),
    )

-- and are all of them
ends : (i k at' : ℕ) (t : Tag) (ws : List ℕ) → length ws ≡ at' + k → bad_word i (replicate k t) (drop at' ws) ≡ None → drop at' ws ≡ tagged t (values_at ws at' k)
ends i k at' t ws l e =
    let d = length-drop at' ws in
    let r = split i k t [] (drop at' ws) (ap (λ ts. bad_word i ts (drop at' ws)) (append-nil (replicate k t)) ∙ e) in
    sym (take_all k (drop at' ws) (omega arith)) ∙ r.0

-- ---- the head
headed : (sf ef : Form) (op : ℕ) (ws b : List ℕ) → has_head ws ≡ true → kinds_match sf ef ws ≡ true → length ws ≡ 1 + count_in ws → operation_in ws ≡ op → drop 1 ws ≡ b
    → ws ≡ word 1 (head_value op sf.number ef.number (length b)) ∷ b
headed sf ef op ws b h k l o e =
    let p = and_parts _ _ h in
    let some = ltb-true 0 (length ws) p.0 in
    let kinds : (eqb (stamp_kind_in ws) sf.number ≡ true) × (eqb (entry_kind_in ws) ef.number ≡ true) = and_parts _ _ k in
    let d = length-drop 1 ws in
    let lb : length (drop 1 ws) ≡ length b = ap length e in
    let count : count_in ws ≡ length b = omega arith in
    let v = head_whole (head_in ws) op sf.number ef.number (length b) o (eqb-true _ _ kinds.0) (eqb-true _ _ kinds.1) count in
    let first = word_back (at ws 0) 1 (eqb-true _ _ p.1) in
    drop_more ws 0 0 some ∙ (λ i. (first ∙ ap (word 1) v) i ∷ e i)

-- ---- the place
ground_word : (p : ℕ) → fits OnGround p ≡ true → p ≡ word 4 0
ground_word p f = let w = fitting_word OnGround p f in w.0 ∙ ap (word 4) (eqb-true _ _ w.1)

side_word : (p : ℕ) → fits OnSide p ≡ true → p ≡ word 5 (side_number (side_in (value_of p)))
side_word p f =
    (fitting_word OnSide p f).0 ∙ ap (word 5) (go (eqb (value_of p) 0) refl)
  where
    go : (b : Bool) → eqb (value_of p) 0 ≡ b → value_of p ≡ side_number (cond b Left Right)
    go true e = eqb-true (value_of p) 0 e
    go false e = let w = fitting_word OnSide p f in let small = leb-true (value_of p) 1 w.1 in grind (arith, nat_tests)

-- ---- what follows the own stamp of an insertion
place_body : (n m i : ℕ) (ws : List ℕ) (b : Bool) → length ws ≡ cond b ((2 + n) + n) (2 + n) + m
    → bad_word i (cond b (OnSide ∷ replicate n ParentStamp) (OnGround ∷ []) ++ replicate m EntryValue) (drop (1 + n) ws) ≡ None
    → drop (1 + n) ws ≡ place_words (cond b (Under (side_in (value_of (at ws (1 + n)))) (parent_in n ws)) Ground) ++ tagged EntryValue (values_at ws (cond b ((2 + n) + n) (2 + n)) m)
place_body n m i ws true l e =
    let more : 1 + n < length ws = omega arith in
    let k : (1 + n) + 1 ≡ 2 + n = omega arith in
    let next : drop (1 + n) ws ≡ at ws (1 + n) ∷ drop (2 + n) ws = drop_more ws (1 + n) 0 more ∙ ap (λ j. at ws (1 + n) ∷ drop j ws) k in
    let f = first_fitting i OnSide (replicate n ParentStamp ++ replicate m EntryValue) (at ws (1 + n)) (drop (2 + n) ws) (ap (λ z. bad_word i (OnSide ∷ (replicate n ParentStamp ++ replicate m EntryValue)) z) (sym next) ∙ e) in
    let r = begins (i + 1) n (2 + n) ParentStamp (replicate m EntryValue) ws f.1 in
    let s = ends r.1.0 m ((2 + n) + n) EntryValue ws l r.1.1 in
    next ∙ (λ j. side_word (at ws (1 + n)) f.0 j ∷ (r.0 ∙ ap (λ z. tagged ParentStamp (parent_in n ws) ++ z) s) j)
place_body n m i ws false l e =
    let more : 1 + n < length ws = omega arith in
    let k : (1 + n) + 1 ≡ 2 + n = omega arith in
    let next : drop (1 + n) ws ≡ at ws (1 + n) ∷ drop (2 + n) ws = drop_more ws (1 + n) 0 more ∙ ap (λ j. at ws (1 + n) ∷ drop j ws) k in
    let f = first_fitting i OnGround (replicate m EntryValue) (at ws (1 + n)) (drop (2 + n) ws) (ap (λ z. bad_word i (OnGround ∷ replicate m EntryValue) z) (sym next) ∙ e) in
    let s = ends (i + 1) m (2 + n) EntryValue ws l f.1 in
    next ∙ (λ j. ground_word (at ws (1 + n)) f.0 j ∷ s j)

insertion_body : (n m : ℕ) (ws : List ℕ) → length ws ≡ entry_at n ws + m → bad_word 1 (insertion_tags n m ws) (drop 1 ws) ≡ None
    → drop 1 ws ≡ body (Insertion (own_in n ws) (place_in n ws) (entry_in n m ws))
insertion_body n m ws l e =
    let r = begins 1 n 1 OwnStamp (place_tags n ws ++ replicate m EntryValue) ws e in
    r.0 ∙ ap (λ z. tagged OwnStamp (own_in n ws) ++ z) (place_body n m r.1.0 ws (names_parent n ws) l r.1.1)

one_form : (sf ef : Form) (ws : List ℕ) (m : Said) → granted m ≡ read_answer sf ef ws → ws ≡ in_words sf ef m
one_form sf ef ws m e =
    let n = sf.count in
    let k = ef.count in
    let x = message_in n k ws in
    let six = bad_word 1 (tags_in n k ws) (drop 1 ws) in
    let own = unread sf 1 (own_in n ws) in
    let from_entry : List Question = ask_fault 8 (bad_entry sf ef ws) ∷ [] in
    let from_parent : List Question = ask_fault 7 (bad_parent sf ws) ∷ from_entry in
    let from_own : List Question = ask_fault 7 own ∷ from_parent in
    let q3 = pass 3 (operates ws) (ask 4 (kinds_match sf ef ws) ∷ body_questions sf ef ws) x m e in
    let q4 = pass 4 (kinds_match sf ef ws) (body_questions sf ef ws) x m q3.1 in
    let q5 = pass 5 (lengths_match n k ws) (ask_fault 6 six ∷ from_own) x m q4.1 in
    let q6 = pass_fault 6 six from_own x m q5.1 in
    let q7 = pass_fault 7 own from_parent x m q6.1 in
    let q7' = pass_fault 7 (bad_parent sf ws) from_entry x m q7.1 in
    let q8 = pass_fault 8 (bad_entry sf ef ws) [] x m q7'.1 in
    let last : granted m ≡ granted x = q8.1 in
    let is : m ≡ x = cc in
    let three = and_parts _ _ q3.0 in
    let five = and_parts _ _ q5.0 in
    go (inserts ws) refl three.0 three.1 q4.0 (eqb-true _ _ five.0) (eqb-true _ _ five.1) q6.0 ∙ ap (in_words sf ef) (sym is)
  where
    go : (b : Bool) → inserts ws ≡ b → has_head ws ≡ true → (b || eqb (operation_in ws) 2) ≡ true → kinds_match sf ef ws ≡ true → length ws ≡ 1 + count_in ws
        → length ws ≡ cond b (entry_at sf.count ws + ef.count) (1 + sf.count)
        → bad_word 1 (cond b (insertion_tags sf.count ef.count ws) (replicate sf.count OwnStamp)) (drop 1 ws) ≡ None
        → ws ≡ in_words sf ef (cond b (Insertion (own_in sf.count ws) (place_in sf.count ws) (entry_in sf.count ef.count ws)) (Deletion (own_in sf.count ws)))
    go true ins h o q c l t = headed sf ef 1 ws (body (Insertion (own_in sf.count ws) (place_in sf.count ws) (entry_in sf.count ef.count ws))) h q c (eqb-true _ _ ins) (insertion_body sf.count ef.count ws l t)
    go false ins h o q c l t = headed sf ef 2 ws (body (Deletion (own_in sf.count ws))) h q c (eqb-true _ _ o) (ends 1 sf.count 1 OwnStamp ws l t)

-- so of whatever a call told of them
pub told_one_form : {S E : Type 0} (sf ef : Form) (sv : S → List ℕ) (ev : E → List ℕ) (ws : List ℕ) (r : Result (Message S E) Refusal)
    → told (said sv ev) r ≡ read_answer sf ef ws → IfOk r (λ m. ws ≡ in_words sf ef (said sv ev m))
told_one_form sf ef sv ev ws (Ok m) e = one_form sf ef ws (said sv ev m) e
told_one_form sf ef sv ev ws (Err f) e = tt
