-- Worked pages, computed: one list, in which each test has to come out true. Stamps are told as counter.site.
use Rattle.std.specs.Prelude.{◌≡◌, ℕ, Bool, true, false, not, ◌&&◌, List, [], ◌∷◌, ◌++◌, drop, Some, codes, ◌==◌}
use Rattle.words.specs.Answers.{Answer}
use Rattle.words.specs.Answers.Answer.{granted, refused}
use Rattle.words.specs.Forms.{same_values}
use Rattle.stamps.specs.Pairs.{pair_form, pair_kind}
use Rattle.stamps.specs.Tickets.{ticket_form, ticket_kind}
use Rattle.entries.specs.Characters.{character_form, character_kind}
use Rattle.entries.specs.Registers.{register_form, register_kind, register_values}
use Rattle.entries.specs.declared.types.RegisterType.TheVariants.{Burial}
use Rattle.messages.specs.declared.model.Operation.{Operation}
use Rattle.messages.specs.declared.model.Operation.TheVariants.{Insert, Delete}
use Rattle.ledger.specs.Answering.{after_delete, after_insert, after_receive, kinds_of, receive_answer}
use Rattle.ledger.specs.Kinds.{Kinds}
use Rattle.ledger.specs.Ledger.{Ledger, row_of, struck_of}
use Rattle.ledger.specs.Laws.{Counts, counts, opened, outgoing, waits}
use Rattle.ledger.specs.Laws.Spot.{at_top, after}
use Rattle.ledger.specs.Paths.{Item, reading, stands}

abbrev pub pairs_and_characters : Kinds
pairs_and_characters = kinds_of pair_form pair_kind character_form character_kind

abbrev pub tickets_and_characters : Kinds
tickets_and_characters = kinds_of ticket_form ticket_kind character_form character_kind

abbrev pub pairs_and_registers : Kinds
pairs_and_registers = kinds_of pair_form pair_kind register_form register_kind

-- ---- small words
abbrev page : ℕ → Ledger
page site = opened site 8

-- the values of the entries in order
abbrev entries_of : List Item → List ℕ
entries_of [] = []
entries_of (x ∷ xs) = x.entry ++ entries_of xs

abbrev text : Kinds → Ledger → List ℕ
text k l = entries_of (reading k.stamps l.rows)

abbrev four : Counts → List ℕ
four c = c.standing ∷ c.struck ∷ c.waiting ∷ c.deletions ∷ []

-- the words of a message that a page has made and not sent
abbrev words : Kinds → Ledger → Operation → List ℕ → List ℕ
words k l op s = outgoing k op (row_of s l.rows)

abbrev granted_as : Answer Bool → Bool → Bool
granted_as (granted true) b = b
granted_as (granted false) b = not b
granted_as (refused n place) b = false

abbrev refused_as : Answer Bool → ℕ → Bool
refused_as (granted b) n = false
refused_as (refused m place) n = m == n

abbrev pair : ℕ → ℕ → List ℕ
pair counter site = counter ∷ site ∷ []

-- ---- pages: site 7 inserts a at the top, c after a and b after a; site 9 hears of a and inserts x after it
module _ (k : Kinds) (a c b x : List ℕ) where
  abbrev seven : Ledger
  seven = after_insert k (after_insert k (after_insert k (page 7) at_top (codes "a")) (after a) (codes "c")) (after a) (codes "b")

  abbrev nine : Ledger
  nine = after_insert k (after_receive k (page 9) (words k seven Insert a)) (after a) (codes "x")

  abbrev joined : Ledger
  joined = after_receive k seven (words k nine Insert x)

  abbrev backwards : Ledger
  backwards = after_receive k (after_receive k (page 4) (words k seven Insert b)) (words k seven Insert c)

-- a at the top, c after a, c deleted, and then b after a
abbrev placed_by_struck : Ledger
placed_by_struck = after_insert pairs_and_characters (after_delete (after_insert pairs_and_characters (after_insert pairs_and_characters (page 7) at_top (codes "a")) (after (pair 1 7)) (codes "c")) (pair 2 7)) (after (pair 1 7)) (codes "b")

-- A at the top by site 7
abbrev lettered : Ledger
lettered = after_insert pairs_and_characters (page 7) at_top (codes "A")

abbrev K : Kinds
K = pairs_and_characters

abbrev three : Ledger
three = seven K (pair 1 7) (pair 2 7) (pair 3 7) (pair 1 9)

abbrev late : Ledger
late = backwards K (pair 1 7) (pair 2 7) (pair 3 7) (pair 1 9)

-- y, by stamp 5.9 on the ground, and the deletion of that stamp
abbrev y_inserted : List ℕ
y_inserted = 0x11010104 ∷ 0x20000005 ∷ 0x20000009 ∷ 0x40000000 ∷ 0x60000079 ∷ []

abbrev y_deleted : List ℕ
y_deleted = 0x12010102 ∷ 0x20000005 ∷ 0x20000009 ∷ []

-- z under the same stamp
abbrev z_inserted : List ℕ
z_inserted = 0x11010104 ∷ 0x20000005 ∷ 0x20000009 ∷ 0x40000000 ∷ 0x6000007A ∷ []

abbrev struck_first : Ledger
struck_first = after_receive K (after_receive K (page 4) y_deleted) y_inserted

abbrev held_once : Ledger
held_once = after_receive K (page 4) y_inserted

-- the surname's UTF-8 bytes
abbrev o_briain : List ℕ
o_briain = 0xC3 ∷ 0x93 ∷ codes " Briain"

abbrev interred : Ledger
interred = after_insert pairs_and_registers (page 7) at_top (register_values 4711 (Some 88) Burial o_briain)

abbrev pub worked_pages : List Bool
worked_pages =
    -- an empty page reads as nothing, and counts nothing
    same_values (text K (page 7)) []
    ∷ same_values (four (counts K.stamps [])) (0 ∷ 0 ∷ 0 ∷ 0 ∷ [])
    -- the words of A by 1.7 at the top, and of its deletion
    ∷ same_values (words K lettered Insert (pair 1 7)) (0x11010104 ∷ 0x20000001 ∷ 0x20000007 ∷ 0x40000000 ∷ 0x60000041 ∷ [])
    ∷ same_values (words K (after_delete lettered (pair 1 7)) Delete (pair 1 7)) (0x12010102 ∷ 0x20000001 ∷ 0x20000007 ∷ [])
    -- 2.7 hangs right of 1.7, 3.7 left of 2.7; the page reads abc
    ∷ same_values (words K three Insert (pair 2 7)) (0x11010106 ∷ 0x20000002 ∷ 0x20000007 ∷ 0x50000001 ∷ 0x30000001 ∷ 0x30000007 ∷ 0x60000063 ∷ [])
    ∷ same_values (words K three Insert (pair 3 7)) (0x11010106 ∷ 0x20000003 ∷ 0x20000007 ∷ 0x50000000 ∷ 0x30000002 ∷ 0x30000007 ∷ 0x60000062 ∷ [])
    ∷ same_values (text K three) (codes "abc")
    -- a struck entry counts when a new one is placed: b goes left of c all the same
    ∷ same_values (text K placed_by_struck) (codes "abc")
    -- joined with x, 1.9 after 1.7
    ∷ same_values (text K (joined K (pair 1 7) (pair 2 7) (pair 3 7) (pair 1 9))) (codes "axbc")
    -- the same with tickets
    ∷ same_values (text tickets_and_characters (joined tickets_and_characters (700001 ∷ []) (700002 ∷ []) (700003 ∷ []) (900001 ∷ []))) (codes "abcx")
    -- b and then c wait, and none stands; with a they read abc
    ∷ (same_values (text K late) [] && (waits late.rows (pair 3 7) && waits late.rows (pair 2 7)))
    ∷ same_values (text K (after_receive K late (words K three Insert (pair 1 7)))) (codes "abc")
    -- a deletion that came first: the entry arrives struck
    ∷ (struck_of (pair 5 9) struck_first.rows && stands struck_first.rows (pair 5 9))
    ∷ same_values (four (counts K.stamps struck_first.rows)) (1 ∷ 1 ∷ 0 ∷ 0 ∷ [])
    -- received twice it is held already; another entry under its stamp gets 9
    ∷ granted_as (receive_answer K (page 4) y_inserted) true
    ∷ granted_as (receive_answer K held_once y_inserted) false
    ∷ refused_as (receive_answer K held_once z_inserted) 9
    -- interment 4711, grave 88, burial, Ó Briain
    ∷ same_values (drop 4 (words pairs_and_registers interred Insert (pair 1 7))) (0x60001267 ∷ 0x60000058 ∷ 0x60000109 ∷ 0x60C39320 ∷ 0x60427269 ∷ 0x6061696E ∷ 0x60000000 ∷ 0x60000000 ∷ 0x60000000 ∷ 0x60000000 ∷ 0x60000000 ∷ [])
    ∷ []

abbrev pub all_true : List Bool → Bool
all_true [] = true
all_true (b ∷ bs) = b && all_true bs

abbrev pub WorkedPages : Type 0
WorkedPages = all_true worked_pages ≡ true
