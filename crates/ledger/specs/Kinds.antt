-- The kinds of stamp and entry that a page has, each by what it answers about values alone, and what makes a kind of stamp lawful.
use Rattle.words.specs.Forms.{Form}
use Rattle.stamps.specs.Kinds.{StampKind, Connected, Irreflexive, Transitive}
use Rattle.entries.specs.Kinds.{EntryKind}

-- a kind of stamp: its word form, and what it says of site, counter and order
pub record Stamps : Type 0 where
  pub form : Form
  pub kind : StampKind

-- a kind of entry: its word form, and what it prints
pub record Entries : Type 0 where
  pub form : Form
  pub kind : EntryKind

pub record Kinds : Type 0 where
  pub stamps : Stamps
  pub entries : Entries

-- the laws of the order, over the stamps that read
pub record Ordered (k : Stamps) : Type 0 where
  pub connected : Connected k.form.reads k.kind.earlier
  pub irreflexive : Irreflexive k.form.reads k.kind.earlier
  pub transitive : Transitive k.form.reads k.kind.earlier
