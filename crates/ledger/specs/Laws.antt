-- Any list of calls on a newly opened page, and what is promised of it: the order of arrival makes no difference.
use Rattle.std.specs.Prelude.{◌≡◌, ℕ, ◌+◌, ◌<◌, Bool, true, false, cond, not, ◌&&◌, ◌||◌, List, [], ◌∷◌, ◌++◌, length, is_some, Some, None, Option, ◌≢◌, nat_le, nat_lt, slice_index_or}
use Rattle.words.specs.Forms.{same_values}
use Rattle.words.specs.Answers.{Question, ask}
use Rattle.ledger.specs.Basics.{refusal}
use Rattle.ledger.specs.Kinds.{Kinds, Stamps, Ordered}
use Rattle.ledger.specs.Ledger.{Node, Row, Ledger, insertion, row_of, node_of, struck_of, Location}
use Rattle.messages.specs.declared.model.Side.{Side}
use Rattle.messages.specs.declared.model.Place.TheVariants.{Under}
use Rattle.messages.specs.InWords.{in_words}
use Rattle.messages.specs.declared.model.Message.TheVariants.{Deletion}
use Rattle.messages.specs.declared.model.Operation.{Operation}
use Rattle.messages.specs.declared.model.Operation.TheVariants.{Insert, Delete}
use Rattle.ledger.specs.Paths.{Step, Item, PathOf, stands, reading, before}
use Rattle.ledger.specs.Receive.{receive_questions, message_in}
use Rattle.ledger.specs.Calls.{added, greatest, fresh, place_after, place_at_top}

-- Where a new entry is wanted: at the top, or after a named entry.
pub data Spot : Type 0 where
  at_top : Spot
  after : List ℕ → Spot

pub data Call : Type 0 where
  insert : Spot → List ℕ → Call
  delete : List ℕ → Call
  send : Operation → List ℕ → ℕ → Call
  defer : Operation → List ℕ → Call
  send_next : ℕ → Call
  receive : List ℕ → Call
  read : Call
  render : ℕ → Call
  count : Call

abbrev pub opened : ℕ → ℕ → Ledger
opened site slots = record { site = site; slots = cond (nat_le 1 slots && nat_le slots 4096 && nat_le 1 site && nat_le site 999) slots 0; rows = [] }

abbrev pub with_rows : Ledger → List Row → Ledger
with_rows l rs = record { site = l.site; slots = l.slots; rows = rs }

abbrev pub room : Ledger → List ℕ → Bool
room l s = is_some (row_of s l.rows) || nat_lt (length l.rows) l.slots

abbrev pub spot_questions : Ledger → Spot → List Question
spot_questions l at_top = []
spot_questions l (after s) =
    ask 11 (is_some (node_of s l.rows)) ∷ (ask 12 (stands l.rows s) ∷ [])

abbrev pub insert_questions : Kinds → Ledger → Spot → List ℕ → List Question
insert_questions k l spot vs =
    ask 8 (k.entries.form.reads vs) ∷ (spot_questions l spot ++
    (ask 13 (nat_lt (greatest k.stamps l.site l.rows) k.stamps.kind.last)
    ∷ (ask 10 (nat_lt (length l.rows) l.slots) ∷ [])))

abbrev pub place_for : Stamps → Ledger → Spot → Location
place_for k l at_top = place_at_top k l.rows
place_for k l (after s) = place_after k l.rows s

-- a fresh stamp: the page's site, and one more than the greatest counter of that site on the page
pub record Fresh (k : Stamps) (l : Ledger) (v : List ℕ) : Type 0 where
  pub is : v ≡ fresh k l.site l.rows
  pub valid : k.form.reads v ≡ true
  pub site : k.kind.site v ≡ l.site
  pub counter : k.kind.counter v ≡ greatest k l.site l.rows + 1

-- marks a message unsent
abbrev pub mark : Operation → List ℕ → List Row → List Row
mark op s [] = []
mark Insert s (r ∷ rs) = cond (same_values r.stamp s) (record { stamp = r.stamp; node = r.node; struck = r.struck; insertion_unsent = true; deletion_unsent = r.deletion_unsent } ∷ rs) (r ∷ mark Insert s rs)
mark Delete s (r ∷ rs) = cond (same_values r.stamp s) (record { stamp = r.stamp; node = r.node; struck = r.struck; insertion_unsent = r.insertion_unsent; deletion_unsent = true } ∷ rs) (r ∷ mark Delete s rs)

pub record Inserted (k : Kinds) (l m : Ledger) (spot : Spot) (vs : List ℕ) : Type 0 where
  pub stamp : List ℕ
  pub fresh_stamp : Fresh k.stamps l stamp
  pub after : m ≡ with_rows l (mark Insert stamp (added (insertion stamp (record { place = place_for k.stamps l spot; entry = vs })) l.rows))

-- ---- what two ledgers share
pub record SameTaken (l m : Ledger) : Type 0 where
  pub insertions : (s : List ℕ) → node_of s l.rows ≡ node_of s m.rows
  pub deletions : (s : List ℕ) → struck_of s l.rows ≡ struck_of s m.rows

abbrev pub waits : List Row → List ℕ → Bool
waits rows s = is_some (node_of s rows) && not (stands rows s)

pub record Counts : Type 0 where
  pub standing : ℕ
  pub struck : ℕ
  pub waiting : ℕ
  pub deletions : ℕ

abbrev pub struck_items : List Item → ℕ
struck_items [] = 0
struck_items (x ∷ xs) = cond x.struck 1 0 + struck_items xs

abbrev pub waiting_rows : List Row → List Row → ℕ
waiting_rows rows [] = 0
waiting_rows rows (r ∷ rs) = cond (waits rows r.stamp) 1 0 + waiting_rows rows rs

abbrev pub lone_deletions : List Row → ℕ
lone_deletions [] = 0
lone_deletions (r ∷ rs) = cond (r.struck && not (is_some r.node)) 1 0 + lone_deletions rs

abbrev pub counts : Stamps → List Row → Counts
counts k rows = record {
  standing = length (reading k rows);
  struck = struck_items (reading k rows);
  waiting = waiting_rows rows rows;
  deletions = lone_deletions rows;
}

pub record ReadAlike (k : Stamps) (l m : Ledger) : Type 0 where
  pub reading_same : reading k l.rows ≡ reading k m.rows
  pub waiting_same : (s : List ℕ) → waits l.rows s ≡ waits m.rows s
  pub counts_same : counts k l.rows ≡ counts k m.rows

-- ---- one call
abbrev pub delete_questions : Ledger → List ℕ → List Question
delete_questions l s =
    ask 11 (is_some (node_of s l.rows))
    ∷ (ask 12 (stands l.rows s)
    ∷ (ask 14 (not (struck_of s l.rows)) ∷ []))

-- the words of a marked message, which a call can send
abbrev pub outgoing_in : Kinds → Operation → Row → Option Node → List ℕ
outgoing_in k Insert r None = []
outgoing_in k Insert r (Some w) = cond r.insertion_unsent (in_words k.stamps.form k.entries.form (insertion r.stamp w)) []
outgoing_in k Delete r w = cond r.deletion_unsent (in_words k.stamps.form k.entries.form (Deletion r.stamp)) []

abbrev pub outgoing : Kinds → Operation → Option Row → List ℕ
outgoing k op None = []
outgoing k op (Some r) = outgoing_in k op r r.node

abbrev pub unmark : Operation → List ℕ → List Row → List Row
unmark op s [] = []
unmark Insert s (r ∷ rs) = cond (same_values r.stamp s) (record { stamp = r.stamp; node = r.node; struck = r.struck; insertion_unsent = false; deletion_unsent = r.deletion_unsent } ∷ rs) (r ∷ unmark Insert s rs)
unmark Delete s (r ∷ rs) = cond (same_values r.stamp s) (record { stamp = r.stamp; node = r.node; struck = r.struck; insertion_unsent = r.insertion_unsent; deletion_unsent = false } ∷ rs) (r ∷ unmark Delete s rs)

-- sent if it is marked and the space is long enough
abbrev pub sent : Kinds → Operation → List ℕ → ℕ → List Row → List Row
sent k op s space rows = cond (nat_le (length (outgoing k op (row_of s rows))) space) (unmark op s rows) rows

pub record Marked : Type 0 where
  pub op : Operation
  pub stamp : List ℕ

abbrev pub next_unsent : List Row → Option Marked
next_unsent [] = None
next_unsent (r ∷ rs) =
    cond r.insertion_unsent (Some (record { op = Insert; stamp = r.stamp }))
    (cond r.deletion_unsent (Some (record { op = Delete; stamp = r.stamp })) (next_unsent rs))

abbrev pub sent_next : Kinds → ℕ → Option Marked → List Row → List Row
sent_next k space None rows = rows
sent_next k space (Some x) rows = sent k x.op x.stamp space rows

abbrev pub InsertDoes : Kinds → Ledger → Spot → List ℕ → Ledger → Option ℕ → Type 0
InsertDoes k l spot vs m None = Inserted k l m spot vs
InsertDoes k l spot vs m (Some n) = m ≡ l

abbrev pub deleted : Ledger → List ℕ → Option ℕ → Ledger
deleted l s None = with_rows l (mark Delete s (added (Deletion s) l.rows))
deleted l s (Some n) = l

abbrev pub received : Kinds → Ledger → List ℕ → Option ℕ → Ledger
received k l ws None = with_rows l (added (message_in k ws) l.rows)
received k l ws (Some n) = l

-- what one call makes of a ledger
abbrev pub Does : Kinds → Ledger → Call → Ledger → Type 0
Does k l (insert spot vs) m = InsertDoes k l spot vs m (refusal (insert_questions k l spot vs))
Does k l (delete s) m = m ≡ deleted l s (refusal (delete_questions l s))
Does k l (send op s space) m = m ≡ with_rows l (sent k op s space l.rows)
Does k l (defer op s) m = m ≡ l
Does k l (send_next space) m = m ≡ with_rows l (sent_next k space (next_unsent l.rows) l.rows)
Does k l (receive ws) m = m ≡ received k l ws (refusal (receive_questions k l ws))
Does k l read m = m ≡ l
Does k l (render space) m = m ≡ l
Does k l count m = m ≡ l

pub data Run (k : Kinds) : Ledger → List Call → Ledger → Type 0 where
  done : (l : Ledger) → Run k l [] l
  then : (l m n : Ledger) (c : Call) (cs : List Call) → Does k l c m → Run k m cs n → Run k l (c ∷ cs) n

-- a newly opened page, the calls made on it since, and what it then holds
pub record History (k : Kinds) : Type 0 where
  pub site : ℕ
  pub slots : ℕ
  pub calls : List Call
  pub ledger : Ledger
  pub ran : Run k (opened site slots) calls ledger

-- ---- the law
abbrev pub entry_at : List Item → ℕ → Item
entry_at r i = slice_index_or r i (record { stamp = []; entry = []; struck = false })

pub record ReadBefore (r : List Item) (s t : List ℕ) : Type 0 where
  pub i : ℕ
  pub j : ℕ
  pub in_turn : i < j
  pub within : j < length r
  pub first_is : (entry_at r i).stamp ≡ s
  pub second_is : (entry_at r j).stamp ≡ t

pub record StillRead (r : List Item) (x : Item) : Type 0 where
  pub at : ℕ
  pub within : at < length r
  pub stamp_same : (entry_at r at).stamp ≡ x.stamp
  pub entry_same : (entry_at r at).entry ≡ x.entry
  pub struck_kept : x.struck ≡ true → (entry_at r at).struck ≡ true

pub record Keeps (k : Stamps) (l m : Ledger) : Type 0 where
  pub stays : (i : ℕ) → i < length (reading k l.rows) → StillRead (reading k m.rows) (entry_at (reading k l.rows) i)
  pub in_order : (s t : List ℕ) → ReadBefore (reading k l.rows) s t → ReadBefore (reading k m.rows) s t

-- no insertion on the page waits for the stamp
abbrev pub NoneWaitsFor : List Row → List ℕ → Type 0
NoneWaitsFor rows s = (t e : List ℕ) (d : Side) → node_of t rows ≢ Some (record { place = Under d s; entry = e })

abbrev pub new_item : List ℕ → List ℕ → Item
new_item s vs = record { stamp = s; entry = vs; struck = false }

abbrev pub StandsThere : Stamps → Ledger → Ledger → Spot → Item → Type 0
StandsThere k l m at_top x = reading k m.rows ≡ x ∷ reading k l.rows
StandsThere k l m (after s) x = (front back : List Item) (named : Item) → named.stamp ≡ s → reading k l.rows ≡ front ++ (named ∷ back) → reading k m.rows ≡ front ++ (named ∷ (x ∷ back))

abbrev pub NoTwoInsertions : Ledger → Ledger → Type 0
NoTwoInsertions l m = (s : List ℕ) (v w : Node) → node_of s l.rows ≡ Some v → node_of s m.rows ≡ Some w → v ≡ w

-- the reading lists the standing entries, each once, in the order of their paths
pub record ReadsByPaths (k : Stamps) (rows : List Row) : Type 0 where
  pub ascending : (i j : ℕ) (p q : List Step) → i < j → j < length (reading k rows) → PathOf rows (entry_at (reading k rows) i).stamp p → PathOf rows (entry_at (reading k rows) j).stamp q → before k.kind.earlier p q ≡ true
  pub standing : (i : ℕ) → i < length (reading k rows) → (p : List Step) × PathOf rows (entry_at (reading k rows) i).stamp p
  pub entries : (i : ℕ) → i < length (reading k rows) → (w : Node) × (node_of (entry_at (reading k rows) i).stamp rows ≡ Some w) × ((entry_at (reading k rows) i).entry ≡ w.entry)
  pub deletions : (i : ℕ) → i < length (reading k rows) → (entry_at (reading k rows) i).struck ≡ struck_of (entry_at (reading k rows) i).stamp rows
  pub complete : (s : List ℕ) (p : List Step) → PathOf rows s p → (i : ℕ) × (i < length (reading k rows)) × ((entry_at (reading k rows) i).stamp ≡ s)

pub record OrderMakesNoDifference (k : Kinds) : Type 0 where
  pub reads : (a : History k) → ReadsByPaths k.stamps a.ledger.rows
  pub read_alike : (a b : History k) → SameTaken a.ledger b.ledger → ReadAlike k.stamps a.ledger b.ledger
  pub keeps : (a : History k) (c : Call) (m : Ledger) → Does k a.ledger c m → Keeps k.stamps a.ledger m
  pub stands_there : (a : History k) (spot : Spot) (vs : List ℕ) (m : Ledger) → refusal (insert_questions k a.ledger spot vs) ≡ None → (i : Inserted k a.ledger m spot vs) → NoneWaitsFor a.ledger.rows i.stamp → StandsThere k.stamps a.ledger m spot (new_item i.stamp vs)
  pub fresh_stamp : (a : History k) (spot : Spot) (vs : List ℕ) (m : Ledger) → (i : Inserted k a.ledger m spot vs) → row_of i.stamp a.ledger.rows ≡ None
  pub same_order : (a b : History k) → NoTwoInsertions a.ledger b.ledger → (s t : List ℕ) → stands b.ledger.rows s ≡ true → stands b.ledger.rows t ≡ true → ReadBefore (reading k.stamps a.ledger.rows) s t → ReadBefore (reading k.stamps b.ledger.rows) s t

-- for every kind whose stamps are totally ordered
abbrev pub OrderMakesNoDifferenceAlways : Type 0
OrderMakesNoDifferenceAlways = (k : Kinds) → Ordered k.stamps → OrderMakesNoDifference k
