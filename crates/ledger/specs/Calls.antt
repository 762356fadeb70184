-- What each call does to a ledger.
use Rattle.std.specs.Prelude.{ℕ, ◌+◌, max, Bool, true, false, cond, ◌&&◌, List, [], ◌∷◌, Some, None, Option, ◌==◌}
use Rattle.words.specs.Forms.{same_values}
use Rattle.ledger.specs.Kinds.{Stamps}
use Rattle.ledger.specs.Ledger.{Row, Location}
use Rattle.messages.specs.declared.model.Side.TheVariants.{Left, Right}
use Rattle.messages.specs.declared.model.Place.TheVariants.{Ground, Under}
use Rattle.messages.specs.Model.{Said, stamp_of}
use Rattle.messages.specs.declared.model.Message.TheVariants.{Insertion, Deletion}
use Rattle.ledger.specs.Paths.{Step, Placed, in_order, path, same_step, side_of}

-- the ledger's rows once a message is added: a new row, or the row of its stamp with it
abbrev pub merge : Said → Row → Row
merge (Insertion s pl e) r = record { stamp = r.stamp; node = Some (record { place = pl; entry = e }); struck = r.struck; insertion_unsent = r.insertion_unsent; deletion_unsent = r.deletion_unsent }
merge (Deletion s) r = record { stamp = r.stamp; node = r.node; struck = true; insertion_unsent = r.insertion_unsent; deletion_unsent = r.deletion_unsent }

abbrev pub blank : List ℕ → Row
blank s = record { stamp = s; node = None; struck = false; insertion_unsent = false; deletion_unsent = false }

abbrev pub added : Said → List Row → List Row
added m [] = merge m (blank (stamp_of m)) ∷ []
added m (r ∷ rs) = cond (same_values r.stamp (stamp_of m)) (merge m r ∷ rs) (r ∷ added m rs)

-- the greatest counter of a site under which the rows hold something
abbrev pub greatest : Stamps → ℕ → List Row → ℕ
greatest k site [] = 0
greatest k site (r ∷ rs) = cond (k.kind.site r.stamp == site) (max (k.kind.counter r.stamp) (greatest k site rs)) (greatest k site rs)

abbrev pub fresh : Stamps → ℕ → List Row → List ℕ
fresh k site rows = k.kind.stamped site (greatest k site rows + 1)

-- is the second path below the first by way of a right child?
abbrev pub right_below : List Step → List Step → Bool
right_below [] [] = false
right_below [] (b ∷ q) = side_of b Right
right_below (a ∷ p) [] = false
right_below (a ∷ p) (b ∷ q) = same_step a b && right_below p q

abbrev pub firsts : List Step → List Placed → Option (List ℕ)
firsts p [] = None
firsts p (x ∷ xs) = cond (right_below p x.steps) (Some x.item.stamp) (firsts p xs)

abbrev pub beside : Location → Option (List ℕ) → Location
beside otherwise None = otherwise
beside otherwise (Some f) = Under Left f

abbrev pub steps_or_none : Option (List Step) → List Step
steps_or_none None = []
steps_or_none (Some p) = p

abbrev pub place_at_top : Stamps → List Row → Location
place_at_top k rows = beside Ground (firsts [] (in_order k rows))

abbrev pub place_after : Stamps → List Row → List ℕ → Location
place_after k rows s = beside (Under Right s) (firsts (steps_or_none (path rows s)) (in_order k rows))
