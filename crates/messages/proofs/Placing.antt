-- The tags of an insertion, part by part.
use Rattle.std.proofs.Common.{◌≡◌, ℕ, ◌+◌, ◌-◌, Bool, true, false, cond, List, [], ◌∷◌, ◌++◌, length, drop, replicate, None, sym, ap, ◌∙◌, arith}
use Rattle.std.proofs.lemmas.List.{drop-drop, length-replicate}
use Rattle.messages.specs.FromWords.{bad_place, bad_word, entry_at, insertion_tags, names_parent, place_at, place_tags}
use Rattle.messages.specs.declared.model.Tag.TheVariants.{OwnStamp, ParentStamp, OnGround, OnSide, EntryValue}
use Rattle.messages.proofs.Tagging.{bad_words_then, bad_word_append, both_none, or_else}

-- where the place ends the entry begins
place_ends : (n : ℕ) (ws : List ℕ) → place_at n + length (place_tags n ws) ≡ entry_at n ws
place_ends n ws = go (names_parent n ws)
  where
    go : (b : Bool) → (1 + n) + length (cond b (OnSide ∷ replicate n ParentStamp) (OnGround ∷ [])) ≡ cond b ((2 + n) + n) (2 + n)
    go true = let k = length-replicate n ParentStamp in omega arith
    go false = omega arith

pub insertion_faults : (n m : ℕ) (ws : List ℕ) (end : ℕ) → end ≡ entry_at n ws + m
    → bad_word 1 (insertion_tags n m ws) (drop 1 ws)
    ≡ or_else (bad_word 1 (replicate ((1 + n) - 1) OwnStamp) (drop 1 ws))
    (or_else (bad_place n ws)
    (bad_word (entry_at n ws) (replicate (end - entry_at n ws) EntryValue) (drop (entry_at n ws) ws)))
insertion_faults n m ws end h =
    let e : n ≡ (1 + n) - 1 = omega arith in
    let k : m ≡ end - entry_at n ws = omega arith in
    let us = place_tags n ws ++ replicate m EntryValue in
    let own = bad_word 1 (replicate ((1 + n) - 1) OwnStamp) (drop 1 ws) in
    let place = bad_place n ws in
    let d : drop (length (place_tags n ws)) (drop (place_at n) ws) ≡ drop (entry_at n ws) ws = drop-drop (length (place_tags n ws)) (place_at n) ws ∙ ap (λ j. drop j ws) (place_ends n ws) in
    ap (λ j. bad_word 1 (replicate j OwnStamp ++ us) (drop 1 ws)) e
    ∙ bad_words_then 1 (1 + n) OwnStamp us ws (omega arith)
    ∙ ap (or_else own) (bad_word_append (place_at n) (place_tags n ws) (replicate m EntryValue) (drop (place_at n) ws))
    ∙ (λ j. or_else own (or_else place (bad_word (place_ends n ws j) (replicate (k j) EntryValue) (d j))))

pub place_fits : (n m : ℕ) (ws : List ℕ) → length ws ≡ entry_at n ws + m → bad_word 1 (insertion_tags n m ws) (drop 1 ws) ≡ None
    → bad_place n ws ≡ None
place_fits n m ws h e = (both_none _ _ (both_none _ _ (sym (insertion_faults n m ws (length ws) h) ∙ e)).1).0
