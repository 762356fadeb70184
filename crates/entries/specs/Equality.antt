-- Register entries are equal where their values are.
use Rattle.std.specs.Prelude.{◌≡◌, ℕ, ◌+◌, ◌*◌, ◌≤◌, Bool, true, ◌&&◌, List, [], ◌∷◌, length, ◌==◌, nat_eq, Option, Some, None, refl}
use Rattle.std.specs.Cmp.{both_ways}
use Rattle.std.specs.Cmp.Lexicographic.{pointwise}
use Rattle.std.specs.Option.{option_eq, unwrap_or}
use Rattle.std.proofs.Common.{ap, sym, ◌∙◌, arith}
use Rattle.std.proofs.lemmas.Bool.Decides.{nat_tests}
use Rattle.words.specs.Forms.{same_values}
use Rattle.words.proofs.Sames.{same_from_test, test_from_same}
use denote.Enum.Bare.{sameb}
use Rattle.entries.specs.contracts.types.RegisterType.{the_type}
use Rattle.entries.specs.declared.registers.RegisterEntry.{RegisterEntry}
use Rattle.entries.specs.declared.types.RegisterType.{RegisterType}
use Rattle.entries.specs.declared.types.RegisterType.TheVariants.{Burial, Cremation, Scattering}
use Rattle.entries.specs.Surnames.{packed, padded, unpacked}
use Rattle.entries.specs.Registers.{type_number, grave_fits}
use Rattle.entries.specs.Held.{entry_values}
use Rattle.entries.specs.Fitting.{fits_parts}
use Rattle.entries.specs.Packing.{unpacked_surname}

same_type : (a b : RegisterType) → sameb the_type a b ≡ (type_number a == type_number b)
same_type Burial Burial = refl
same_type Burial Cremation = refl
same_type Burial Scattering = refl
same_type Cremation Burial = refl
same_type Cremation Cremation = refl
same_type Cremation Scattering = refl
same_type Scattering Burial = refl
same_type Scattering Cremation = refl
same_type Scattering Scattering = refl

same_grave : (a b : Option ℕ) → grave_fits a ≡ true → grave_fits b ≡ true → option_eq nat_eq a b ≡ (unwrap_or a 0 == unwrap_or b 0)
same_grave None None h k = refl
same_grave None (Some n) h k = grind (arith, nat_tests)
same_grave (Some m) None h k = grind (arith, nat_tests)
same_grave (Some m) (Some n) h k = refl

-- type and length are known by the value that holds both
same_size : (a b m n : ℕ) → m ≤ 24 → n ≤ 24 → ((a == b) && (m == n)) ≡ (a * 256 + m == b * 256 + n)
same_size a b m n h k = grind (arith, nat_tests)

pub pointwise_same : (v w : List ℕ) → pointwise nat_eq v w ≡ same_values v w
pointwise_same [] [] = refl
pointwise_same [] (y ∷ w) = refl
pointwise_same (x ∷ v) [] = refl
pointwise_same (x ∷ v) (y ∷ w) = ap (λ b. x == y && b) (pointwise_same v w)

-- surnames are known by the values that hold them
same_packed : (bs cs : List ℕ) → unpacked (packed bs) ≡ bs → unpacked (packed cs) ≡ cs → pointwise nat_eq bs cs ≡ same_values (packed bs) (packed cs)
same_packed bs cs e f =
    pointwise_same bs cs
    ∙ both_ways (same_values bs cs) (same_values (packed bs) (packed cs))
    (λ h. test_from_same (packed bs) (packed cs) (ap packed (same_from_test bs cs h)))
    (λ h. test_from_same bs cs (sym e ∙ ap unpacked (same_from_test (packed bs) (packed cs) h) ∙ f))

turned : (k p l : Bool) → (k && (p && l)) ≡ ((k && l) && p)
turned k p l = grind (arith, nat_tests)

pub equal_entries : (x y : RegisterEntry) → (nat_eq x.number y.number && (option_eq nat_eq x.grave y.grave && (sameb the_type x.kind y.kind && (pointwise nat_eq (padded x.surname) (padded y.surname) && nat_eq (length x.surname) (length y.surname))))) ≡ same_values (entry_values x) (entry_values y)
equal_entries x y =
    let f = fits_parts x.surname x.named in
    let g = fits_parts y.surname y.named in
    let grave = same_grave x.grave y.grave x.laid y.laid in
    let size = same_size (type_number x.kind) (type_number y.kind) (length x.surname) (length y.surname) f.0 g.0 in
    let surname = same_packed (padded x.surname) (padded y.surname) (unpacked_surname x.surname f.0 f.1) (unpacked_surname y.surname g.0 g.1) in
    let long = nat_eq (length x.surname) (length y.surname) in
    λ i. nat_eq x.number y.number && (grave i && (
    (λ j. same_type x.kind y.kind j && (surname j && long))
    ∙ turned (type_number x.kind == type_number y.kind) (same_values (packed (padded x.surname)) (packed (padded y.surname))) long
    ∙ (λ j. size j && same_values (packed (padded x.surname)) (packed (padded y.surname)))) i)
