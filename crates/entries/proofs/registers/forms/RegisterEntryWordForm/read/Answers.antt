use Rattle.std.proofs.Common.{◌≡◌, ℕ, ◌+◌, ◌*◌, Bool, true, false, cond, not, ◌==◌, List, ◌∷◌, length, take, drop, Some, None, Ok, Err, Result, MatchResult, refl, sym, ap, ◌∙◌, arith}
use Rattle.std.specs.Bool.{then_some}
use Rattle.std.specs.Array.{IsWholeChunk}
use Rattle.std.specs.Result.{result_ok}
use Rattle.std.proofs.lemmas.Bool.Decides.{nat_tests}
use Rattle.std.proofs.lemmas.List.{length-drop, length-take, take_all}
use Rattle.std.proofs.lemmas.Option.{cond_some}
use Rattle.words.specs.Forms.{read_as}
use Rattle.words.specs.declared.unknown.UnknownNumber.{UnknownNumber}
use Rattle.entries.specs.Surnames.{packed, padded, surname_held, unpacked}
use Rattle.entries.specs.Registers.{TypeNumbered, type_number, some_grave, numbers_fit, register_values, register_form, register_reads, number_in, grave_in, type_in, length_in, bytes_in, surname_in}
use Rattle.entries.specs.Fits.{grave_back, grave_reads}
use Rattle.entries.specs.Reading.{type_within, whole_held}
use Rattle.entries.specs.declared.types.RegisterType.{RegisterType}
use Rattle.entries.proofs.registers.forms.RegisterEntryWordForm.read.Goals as goal

type_read : (n : ℕ) (r : Result RegisterType UnknownNumber) (type : RegisterType) → TypeNumbered n r → Some type ≡ result_ok r → type_number type ≡ n
type_read n (Ok k) type h e = let s : type ≡ k = cc in ap type_number s ∙ h
type_read n (Err k) type h e = cc

chunk_read : {E : Type 0} (xs ys : List ℕ) (r : Result (List ℕ) E) → MatchResult r (λ y. IsWholeChunk xs y 8) (λ _. length xs ≡ 8 → ⊥) → Some ys ≡ result_ok r → (length xs ≡ 8) × (ys ≡ xs)
chunk_read xs ys (Ok y) h e = let s : ys ≡ y = cc in (h.long, s ∙ h.same)
chunk_read xs ys (Err y) h e = cc

turned : (b : Bool) (n : ℕ) → then_some (not b) n ≡ cond b None (Some n)
turned true n = refl
turned false n = refl

-- with a type and a surname that are known, values read where their numbers fit
known_read : (v : List ℕ) (type : RegisterType) → length v ≡ 11 → type_number type ≡ type_in v → surname_held (length_in v) (bytes_in v) ≡ true → numbers_fit (number_in v) (some_grave (grave_in v)) ≡ true → Some (register_values (number_in v) (some_grave (grave_in v)) type (surname_in v)) ≡ read_as register_form v
known_read v type l t h n =
    let within = type_within type in
    let laid = grave_reads (grave_in v) in
    let reads : register_reads v ≡ true = grind (arith, nat_tests) in
    let same : register_values (number_in v) (some_grave (grave_in v)) type (surname_in v) ≡ v =
    (λ i. number_in v ∷ grave_back (grave_in v) i ∷ (t i * 256 + length (surname_in v)) ∷ packed (padded (surname_in v))) ∙ sym (whole_held v l h) in
    λ i. cond (sym reads i) (Some (same i)) None

pub returns : goal.returns
returns c =
    let vs = c.args.vs.now in
    let kind = type_read (type_in vs) c.try_from.result c.in_ok-kind.kind c.try_from.ensures c.in_ok-kind.ensures.value in
    let chunk = chunk_read _ c.in_ok-ok.field-0 c.try_into.result c.try_into.ensures.1 c.in_ok-ok.ensures.value in
    let long : length vs ≡ 11 = grind (arith, length-take, length-drop, chunk.0) in
    let bytes : c.in_ok-ok.field-0 ≡ drop 3 vs = chunk.1 ∙ grind (arith, take_all, length-drop, long) in
    let size = length_in vs in
    let values = c.in_ok-ok.field-0 in
    let found = cond_some (surname_held size (unpacked values)) (take size (unpacked values)) c.in_ok-surname.surname (sym c.in_ok-surname.ensures) in
    let held = ap (λ z. surname_held size (unpacked z)) (sym bytes) ∙ found.0 in
    let surname = sym found.1 ∙ ap (λ z. take size (unpacked z)) bytes in
    let grave : c.then_some-grave.result ≡ some_grave (grave_in vs) = c.then_some-grave.ensures ∙ turned (grave_in vs == 0) (grave_in vs) in
    let fit = ap (numbers_fit (number_in vs)) (sym grave) ∙ sym c.numbers_fit.ensures ∙ c.if-not-numbers_fit.false in
    (λ i. Some (register_values (number_in vs) (grave i) c.in_ok-kind.kind (surname i)))
    ∙ known_read vs c.in_ok-kind.kind long kind held fit
