-- A message taken, as one slot more or one slot written anew.
use Rattle.std.proofs.Common.{◌≡◌, ℕ, ◌<◌, Bool, true, false, cond, not, ◌&&◌, ◌||◌, ltb, List, [], ◌∷◌, length, get_or, set, is_some, Some, None, Option, sym, refl, ap, ◌∙◌, subst}
use Rattle.std.proofs.lemmas.List.{set-get_or}
use Rattle.std.proofs.lemmas.Bool.{lt-ltb, not-true}
use Rattle.words.specs.Answers.{answer, ask}
use Rattle.words.specs.Answers.Answer.{refused}
use Rattle.words.specs.Forms.{same_values}
use Rattle.words.specs.Layout.{value_of}
use Rattle.messages.specs.FromWords.{at, bad_parent, entry_in, inserts, names_parent, own_in, parent_at, parent_in, place_at, place_in, side_in}
use Rattle.messages.specs.Model.{Said, said, stamp_of}
use Rattle.messages.specs.declared.model.Message.{Message}
use Rattle.messages.specs.declared.model.Message.TheVariants.{Insertion, Deletion}
use Rattle.messages.specs.declared.model.Place.TheVariants.{Ground, Under}
use Rattle.messages.specs.declared.model.Side.{Side}
use Rattle.ledger.specs.Answering.{after_receive, holds, receive_answer}
use Rattle.ledger.specs.Basics.{refusal}
use Rattle.ledger.specs.Calls.{added, blank, merge}
use Rattle.ledger.specs.Kinds.{Kinds}
use Rattle.ledger.specs.Laws.{received}
use Rattle.ledger.specs.Ledger.{Ledger, Node, Row, node_in, row_of, struck_in}
use Rattle.ledger.specs.Receive.{ledger_questions, message_in, no_other, receive_questions, word_questions}
use Rattle.ledger.proofs.Histories.{AllYes}
use Rattle.ledger.proofs.Same.{never, same_node_true}
use Rattle.slots.specs.Finding.{FirstWith}
use Rattle.slots.specs.Rows.{holds_in}
use Rattle.slots.proofs.Scans.{first_row}
use Rattle.page.specs.Filled.{Elsewhere}
use Rattle.page.specs.Receiving.{HangsElsewhere, with_message}
use Rattle.ledger.proofs.Questions.{answer_past, refusal_past}
use Rattle.page.proofs.Updating.{added_anew, anew_set}

-- ---- the questions that are put to the ledger
module _ (l : Ledger) where
  -- what is held under the stamp: the same whichever message it is
  questions_at : (m : Said) (o : Option Row) → row_of (stamp_of m) l.rows ≡ o → {X : Type 0} (x : X) → answer (ledger_questions l m) x ≡ answer (ask 9 (no_other (node_in o) m) ∷ ask 10 (is_some o || ltb (length l.rows) l.slots) ∷ []) x
  questions_at m o e x = ap (λ z. answer (ask 9 (no_other (node_in z) m) ∷ ask 10 (is_some z || ltb (length l.rows) l.slots) ∷ []) x) e

  pub some_room : (m : Said) → row_of (stamp_of m) l.rows ≡ None → length l.rows < l.slots → AllYes (ledger_questions l m)
  some_room m e h = (ap (λ z. no_other (node_in z) m) e, (ap (λ z. is_some z || ltb (length l.rows) l.slots) e ∙ lt-ltb (length l.rows) l.slots h, tt))

  pub other_there : {X : Type 0} (m : Said) (x : X) (r : Row) → row_of (stamp_of m) l.rows ≡ Some r → no_other r.node m ≡ false → refused 9 None ≡ answer (ledger_questions l m) x
  other_there m x r e h = sym (questions_at m (Some r) e x ∙ ap (λ b. answer (ask 9 b ∷ ask 10 true ∷ []) x) h)

  pub none_other : (m : Said) (r : Row) → row_of (stamp_of m) l.rows ≡ Some r → no_other r.node m ≡ true → AllYes (ledger_questions l m)
  none_other m r e h = (ap (λ z. no_other (node_in z) m) e ∙ h, (ap (λ z. is_some z || ltb (length l.rows) l.slots) e, tt))

  pub holds_there : (m : Said) (r : Row) → row_of (stamp_of m) l.rows ≡ Some r → holds l m ≡ holds_in r m
  holds_there (Insertion s pl en) r e = ap (λ z. is_some (node_in z)) e
  holds_there (Deletion s) r e = ap struck_in e

-- a message that is held already changes nothing
pub merged_same : (m : Said) (r : Row) → no_other r.node m ≡ true → holds_in r m ≡ true → merge m r ≡ r
merged_same (Insertion s pl en) r other held = go r.node refl other held
  where
    go : (o : Option Node) → r.node ≡ o → no_other o (Insertion s pl en) ≡ true → is_some o ≡ true → merge (Insertion s pl en) r ≡ r
    go None e h g = absurd (never false g refl)
    go (Some w) e h g =
        let is : Some (record { place = pl; entry = en }) ≡ r.node = ap Some (sym (same_node_true w (record { place = pl; entry = en }) h)) ∙ sym e in
        λ i. record { stamp = r.stamp; node = is i; struck = r.struck; insertion_unsent = r.insertion_unsent; deletion_unsent = r.deletion_unsent }
merged_same (Deletion s) r other held = λ i. record { stamp = r.stamp; node = r.node; struck = sym held i; insertion_unsent = r.insertion_unsent; deletion_unsent = r.deletion_unsent }

-- ---- the rows
pub merged_away : (m : Said) (r : Row) → r.stamp ≡ stamp_of m → HangsElsewhere m → Elsewhere r.stamp r.node → Elsewhere (merge m r).stamp (merge m r).node
merged_away (Insertion s pl en) r e away was = subst (λ z. Elsewhere z (Some (record { place = pl; entry = en }))) (sym e) away
merged_away (Deletion s) r e away was = was

pub stamp_kept : (m : Said) (r : Row) → (merge m r).stamp ≡ r.stamp
stamp_kept (Insertion s pl en) r = refl
stamp_kept (Deletion s) r = refl

-- the row of the message's stamp, with the message
pub rows_merged : (rows : List Row) (m : Said) (i : ℕ) → FirstWith (stamp_of m) rows (Some i) → set rows i (merge m (get_or rows i (blank []))) ≡ added m rows
rows_merged rows m i f = sym (added_anew m rows _ (first_row (stamp_of m) rows i (blank []) f.0 f.1 f.2) ∙ anew_set (merge m) (stamp_of m) rows i (blank []) f.0 f.1 f.2)

pub rows_again : (rows : List Row) (m : Said) (i : ℕ) (r : Row) → FirstWith (stamp_of m) rows (Some i) → get_or rows i (blank []) ≡ r → no_other r.node m ≡ true → holds_in r m ≡ true → rows ≡ added m rows
rows_again rows m i r f here other held = sym (set-get_or rows i (blank [])) ∙ ap (set rows i) (here ∙ sym (merged_same m r other held) ∙ ap (merge m) (sym here)) ∙ rows_merged rows m i f

-- ---- words that read hang elsewhere
parent_other : (inserts names reads other : Bool) (i : ℕ) → not (is_some (cond {A = Option ℕ} (inserts && names) (cond (reads && other) None (Some i)) None)) ≡ true → inserts ≡ true → names ≡ true → other ≡ true
parent_other inserts names reads true i h w n = refl
parent_other inserts names true false i h w n = rw (w, n) at h
parent_other inserts names false false i h w n = rw (w, n) at h

pub read_elsewhere : (k : Kinds) (ws : List ℕ) → AllYes (word_questions k ws) → HangsElsewhere (message_in k ws)
read_elsewhere k ws y = whole (inserts ws) refl
  where
    n : ℕ
    n = k.stamps.form.count

    parent : not (is_some (bad_parent k.stamps.form ws)) ≡ true
    parent = y.1.1.1.1.1.0

    place : (b : Bool) → names_parent n ws ≡ b → inserts ws ≡ true → (d : Side) (en : List ℕ) → HangsElsewhere (Insertion (own_in n ws) (cond b (Under d (parent_in n ws)) Ground) en)
    place true e w d en = not-true (same_values (parent_in n ws) (own_in n ws)) (parent_other (inserts ws) (names_parent n ws) (k.stamps.form.reads (parent_in n ws)) (not (same_values (parent_in n ws) (own_in n ws))) (parent_at n) parent w e)
    place false e w d en = refl

    whole : (b : Bool) → inserts ws ≡ b → HangsElsewhere (cond b (Insertion (own_in n ws) (place_in n ws) (entry_in n k.entries.form.count ws)) (Deletion (own_in n ws)))
    whole true w = place (names_parent n ws) refl w (side_in (value_of (at ws (place_at n)))) (entry_in n k.entries.form.count ws)
    whole false w = tt

pub said_stamp : {S E : Type 0} (vs : S → List ℕ) (es : E → List ℕ) (m : Message S E) → stamp_of (said vs es m) ≡ vs (stamp_of m)
said_stamp vs es (Insertion s pl en) = refl
said_stamp vs es (Deletion s) = refl

-- ---- words that pass, and then the message's own questions
module _ (k : Kinds) (ws : List ℕ) (m : Said) (passed : AllYes (word_questions k ws)) (is : m ≡ message_in k ws) (l : Ledger) where
  pub receive_answer_is : answer (ledger_questions l m) (not (holds l m)) ≡ receive_answer k l ws
  receive_answer_is = ap (λ n. answer (ledger_questions l n) (not (holds l n))) is ∙ sym (answer_past (word_questions k ws) (ledger_questions l (message_in k ws)) (not (holds l (message_in k ws))) passed)

  received_is : (o : Option ℕ) → with_message l (message_in k ws) o ≡ received k l ws o
  received_is None = refl
  received_is (Some n) = refl

  pub after_receive_is : with_message l m (refusal (ledger_questions l m)) ≡ after_receive k l ws
  after_receive_is = ap (λ n. with_message l n (refusal (ledger_questions l n))) is ∙ ap (with_message l (message_in k ws)) (sym (refusal_past (word_questions k ws) (ledger_questions l (message_in k ws)) passed)) ∙ received_is (refusal (receive_questions k l ws))
