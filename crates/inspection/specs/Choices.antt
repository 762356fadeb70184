-- The words by which a user chooses the kinds of stamp and entry, and the report for a choice.
use Rattle.std.specs.Prelude.{ℕ, if◌then◌else◌, List, Some, None, codes, Option}
use Rattle.std.specs.Option.{option_map, option_or}
use Rattle.words.specs.Forms.{same_values}
use Rattle.stamps.specs.Pairs.{pair_form, pair_kind}
use Rattle.stamps.specs.Tickets.{ticket_form, ticket_kind}
use Rattle.entries.specs.Characters.{character_form, character_prints}
use Rattle.entries.specs.Registers.{register_form, register_prints}
use Rattle.inspection.specs.Reports.{all_answers, report_of}
use Rattle.inspection.specs.declared.choices.Kinds.{Kinds}
use Rattle.inspection.specs.declared.choices.EntryKind.{EntryKind}
use Rattle.inspection.specs.declared.choices.EntryKind.TheVariants.{Character, Register}
use Rattle.inspection.specs.declared.choices.StampKind.{StampKind}
use Rattle.inspection.specs.declared.choices.StampKind.TheVariants.{Pair, Ticket}

-- what is taken where the user chooses nothing
abbrev pub usual : Kinds
usual = record { stamps = Pair; entries = Register }

-- pair or ticket names the stamps, character or register the entries
abbrev pub stamps_named : List ℕ → Option StampKind
stamps_named word = if same_values word (codes "pair") then Some Pair else if same_values word (codes "ticket") then Some Ticket else None

abbrev pub entries_named : List ℕ → Option EntryKind
entries_named word = if same_values word (codes "character") then Some Character else if same_values word (codes "register") then Some Register else None

-- a word that names stamps changes the stamps, and one that names entries the entries
abbrev pub chosen : Kinds → List ℕ → Option Kinds
chosen k word = option_or (option_map (λ s. record k { stamps = s }) (stamps_named word)) (option_map (λ e. record k { entries = e }) (entries_named word))

abbrev pub report_for : StampKind → EntryKind → List ℕ → List ℕ
report_for Pair Character bytes = report_of pair_kind character_prints (all_answers pair_form character_form bytes)
report_for Pair Register bytes = report_of pair_kind register_prints (all_answers pair_form register_form bytes)
report_for Ticket Character bytes = report_of ticket_kind character_prints (all_answers ticket_form character_form bytes)
report_for Ticket Register bytes = report_of ticket_kind register_prints (all_answers ticket_form register_form bytes)
