-- Three bytes to a value, and back.
use Rattle.std.specs.Prelude.{◌≡◌, ℕ, zero, suc, ◌+◌, ◌*◌, ◌/◌, ◌%◌, ◌<◌, ◌≤◌, true, ◌&&◌, List, [], ◌∷◌, ◌++◌, length, take, drop, nat_lt, slice_index, slice_index_or, slice_set, refl}
use Rattle.std.proofs.Common.{ap, sym, ◌∙◌, arith}
use Rattle.std.proofs.lemmas.List.{append_assoc, append-nil, take_more_set, take_all, drop_all, drop_more, at_drop_more, length-set}
use Rattle.std.proofs.lemmas.Bool.Decides.{nat_tests}
use Rattle.words.specs.Forms.{Small}
use Rattle.entries.specs.Surnames.{packed, unpacked, three_bytes, padded, surname_bytes, surname_held}
use Rattle.entries.specs.Fitting.{bytes, held_parts, held_bytes, held_padded, length_padded}

pub unpacked_packed : (m : ℕ) (bs : List ℕ) → length bs ≡ 3 * m → bytes bs ≡ true → unpacked (packed bs) ≡ bs
unpacked_packed m [] l h = refl
unpacked_packed m (a ∷ []) l h = absurd (omega arith)
unpacked_packed m (a ∷ b ∷ []) l h = absurd (omega arith)
unpacked_packed zero (a ∷ b ∷ c ∷ bs) l h = absurd (omega arith)
unpacked_packed (suc m) (a ∷ b ∷ c ∷ bs) l h =
    let small : (a < 256) × (b < 256) × (c < 256) × (bytes bs ≡ true) = grind (arith, nat_tests) in
    let ae : (a * 65536 + b * 256 + c) / 65536 ≡ a = omega arith in
    let be : (a * 65536 + b * 256 + c) / 256 % 256 ≡ b = omega arith in
    let ce : (a * 65536 + b * 256 + c) % 256 ≡ c = omega arith in
    λ i. ae i ∷ be i ∷ ce i ∷ unpacked_packed m bs (omega arith) small.3 i

pub packed_unpacked : (vs : List ℕ) → packed (unpacked vs) ≡ vs
packed_unpacked [] = refl
packed_unpacked (v ∷ vs) =
    let e : v / 65536 * 65536 + v / 256 % 256 * 256 + v % 256 ≡ v = omega arith in
    λ i. e i ∷ packed_unpacked vs i

pub length_unpacked : (vs : List ℕ) → length (unpacked vs) ≡ 3 * length vs
length_unpacked [] = refl
length_unpacked (v ∷ vs) = let e = length_unpacked vs in omega arith

pub length_packed : (m : ℕ) (bs : List ℕ) → length bs ≡ 3 * m → length (packed bs) ≡ m
length_packed m [] l = omega arith
length_packed m (a ∷ []) l = absurd (omega arith)
length_packed m (a ∷ b ∷ []) l = absurd (omega arith)
length_packed zero (a ∷ b ∷ c ∷ bs) l = absurd (omega arith)
length_packed (suc m) (a ∷ b ∷ c ∷ bs) l = let e = length_packed m bs (omega arith) in omega arith

-- ---- the values of a surname
pub unpacked_surname : (s : List ℕ) → length s ≤ 24 → surname_bytes s ≡ true → unpacked (packed (padded s)) ≡ padded s
unpacked_surname s h f =
    let held = held_parts (length s) (padded s) (held_padded s h f) in
    unpacked_packed 8 (padded s) (length_padded s h) (held_bytes (length s) (padded s) held)

-- ---- values of three bytes
bytes_three : (vs : List ℕ) → bytes (unpacked vs) ≡ true → three_bytes vs ≡ true
bytes_three [] h = refl
bytes_three (v ∷ vs) h = grind (arith, nat_tests, bytes_three vs)

pub held_three : (n : ℕ) (vs : List ℕ) → surname_held n (unpacked vs) ≡ true → three_bytes vs ≡ true
held_three n vs h = bytes_three vs (held_bytes n (unpacked vs) (held_parts n (unpacked vs) h))

pub three_small : (vs : List ℕ) → three_bytes vs ≡ true → Small vs
three_small [] h = tt
three_small (v ∷ vs) h = (grind (arith, nat_tests), three_small vs (grind (arith, nat_tests)))

-- ---- packing
packed_more : (bs : List ℕ) (n : ℕ) → n + 2 < length bs → packed (drop n bs) ≡ (slice_index bs n * 65536 + slice_index bs (n + 1) * 256 + slice_index bs (n + 2)) ∷ packed (drop (n + 3) bs)
packed_more bs n h =
    let a = drop_more bs n 0 (omega arith) in
    let b = drop_more bs (n + 1) 0 (omega arith) in
    let c = drop_more bs (n + 1 + 1) 0 (omega arith) in
    let two : n + 1 + 1 ≡ n + 2 = omega arith in
    let three : n + 1 + 1 + 1 ≡ n + 3 = omega arith in
    ap packed (a ∙ ap (λ z. slice_index bs n ∷ z) (b ∙ ap (λ z. slice_index bs (n + 1) ∷ z) c))
    ∙ (λ i. (slice_index bs n * 65536 + slice_index bs (n + 1) * 256 + slice_index bs (two i)) ∷ packed (drop (three i) bs))

-- one more value is packed
pub pack_more : (bs vs : List ℕ) (i x : ℕ) → i < 8 → length bs ≡ 24 → length vs ≡ 8 → x ≡ slice_index bs (3 * i) * 65536 + slice_index bs (3 * i + 1) * 256 + slice_index bs (3 * i + 2) → take i vs ++ packed (drop (3 * i) bs) ≡ packed bs → take (i + 1) (slice_set vs i x) ++ packed (drop (3 * (i + 1)) bs) ≡ packed bs
pack_more bs vs i x h lb lv e inv =
    let next : 3 * i + 3 ≡ 3 * (i + 1) = omega arith in
    let rest = packed (drop (3 * (i + 1)) bs) in
    ap (λ z. z ++ rest) (take_more_set vs i x (omega arith))
    ∙ append_assoc (take i vs) (x ∷ []) rest
    ∙ ap (λ z. take i vs ++ z) ((λ j. e j ∷ packed (drop (sym next j) bs)) ∙ sym (packed_more bs (3 * i) (omega arith)))
    ∙ inv

pub pack_all : (bs vs : List ℕ) (i : ℕ) → 8 ≤ i → length bs ≡ 24 → length vs ≡ 8 → take i vs ++ packed (drop (3 * i) bs) ≡ packed bs → vs ≡ packed bs
pack_all bs vs i h lb lv inv =
    sym (append-nil vs)
    ∙ (λ j. sym (take_all i vs (omega arith)) j ++ packed (sym (drop_all (3 * i) bs (omega arith)) j))
    ∙ inv

-- ---- unpacking
-- three bytes are written from n on
put_three : (bs : List ℕ) (n a b c : ℕ) → n + 2 < length bs → take (n + 3) (slice_set (slice_set (slice_set bs n a) (n + 1) b) (n + 2) c) ≡ take n bs ++ a ∷ b ∷ c ∷ []
put_three bs n a b c h =
    let la = length-set bs n a in
    let lb = length-set (slice_set bs n a) (n + 1) b in
    let two : n + 1 + 1 ≡ n + 2 = omega arith in
    let three : n + 2 + 1 ≡ n + 3 = omega arith in
    let one = take_more_set bs n a (omega arith) in
    let more = take_more_set (slice_set bs n a) (n + 1) b (omega arith) in
    let last = take_more_set (slice_set (slice_set bs n a) (n + 1) b) (n + 2) c (omega arith) in
    ap (λ m. take m (slice_set (slice_set (slice_set bs n a) (n + 1) b) (n + 2) c)) (sym three)
    ∙ last
    ∙ ap (λ z. z ++ c ∷ []) (ap (λ m. take m (slice_set (slice_set bs n a) (n + 1) b)) (sym two) ∙ more ∙ ap (λ z. z ++ b ∷ []) one)
    ∙ ap (λ z. z ++ c ∷ []) (append_assoc (take n bs) (a ∷ []) (b ∷ []))
    ∙ append_assoc (take n bs) (a ∷ b ∷ []) (c ∷ [])

-- one more value is unpacked
pub unpack_more : (vs bs : List ℕ) (i : ℕ) → i < 8 → length vs ≡ 8 → length bs ≡ 24 → take (3 * i) bs ++ unpacked (drop i vs) ≡ unpacked vs → take (3 * (i + 1)) (slice_set (slice_set (slice_set bs (3 * i) (slice_index vs i / 65536)) (3 * i + 1) (slice_index vs i / 256 % 256)) (3 * i + 2) (slice_index vs i % 256)) ++ unpacked (drop (i + 1) vs) ≡ unpacked vs
unpack_more vs bs i h lv lb inv =
    let v = slice_index_or vs i 0 in
    let a = v / 65536 in
    let b = v / 256 % 256 in
    let c = v % 256 in
    let next : 3 * (i + 1) ≡ 3 * i + 3 = omega arith in
    let rest = unpacked (drop (i + 1) vs) in
    let u : unpacked (drop i vs) ≡ a ∷ b ∷ c ∷ rest = at_drop_more unpacked vs i 0 (omega arith) in
    ap (λ m. take m (slice_set (slice_set (slice_set bs (3 * i) a) (3 * i + 1) b) (3 * i + 2) c) ++ rest) next
    ∙ ap (λ z. z ++ rest) (put_three bs (3 * i) a b c (omega arith))
    ∙ append_assoc (take (3 * i) bs) (a ∷ b ∷ c ∷ []) rest
    ∙ ap (λ z. take (3 * i) bs ++ z) (sym u)
    ∙ inv

pub unpack_all : (vs bs : List ℕ) (i : ℕ) → 8 ≤ i → length vs ≡ 8 → length bs ≡ 24 → take (3 * i) bs ++ unpacked (drop i vs) ≡ unpacked vs → bs ≡ unpacked vs
unpack_all vs bs i h lv lb inv =
    sym (append-nil bs)
    ∙ (λ j. sym (take_all (3 * i) bs (omega arith)) j ++ unpacked (sym (drop_all i vs (omega arith)) j))
    ∙ inv

pub small_more : (vs : List ℕ) (i : ℕ) → i < length vs → three_bytes (drop i vs) ≡ (nat_lt (slice_index vs i) 16777216 && three_bytes (drop (i + 1) vs))
small_more vs i h = at_drop_more three_bytes vs i 0 h
