-- 01's list of what makes a store sound, clause by clause by place, in the order in which a fault finder names them. Assumes nothing.
use Rattle.std.specs.Prelude.{List, ℕ, ◌*◌, ◌<◌}
use Rattle.lent.specs.Lent.{WordSized, AllDecode, ZeroFrom}
use Rattle.index.specs.Index.{Indexes, Distinct}
use Rattle.model.specs.WellFormed.{ZeroOrPower, Canonical, Outside}
use Rattle.store.specs.Store.{Store}
use Rattle.store.specs.Shape.{Shaped}
use Rattle.store.specs.Written.{entry_at}

-- every key of the first E entries is canonical; none has an array index below A
abbrev pub AllCanonical : List ℕ → ℕ → Type 0
AllCanonical ws E = (i : ℕ) → i < E → Canonical (entry_at ws i)

abbrev pub AllOutside : List ℕ → ℕ → ℕ → Type 0
AllOutside ws E A = (i : ℕ) → i < E → Outside A (entry_at ws i)

pub record Clauses (s : Store) : Type 0 where
  pub shape : Shaped s
  -- no fault of a store: the slices' type
  pub array_words : WordSized s.slices.array
  pub entry_words : WordSized s.slices.entries
  pub power : ZeroOrPower s.sizes.size
  -- all words decode, the unused ones too
  pub array_decodes : AllDecode s.slices.array
  pub entries_decode : AllDecode s.slices.entries
  pub canonical : AllCanonical s.slices.entries s.sizes.count
  pub outside : AllOutside s.slices.entries s.sizes.count s.sizes.size
  pub distinct : Distinct s.slices.entries s.sizes.count
  pub array_unused : ZeroFrom (2 * s.sizes.size) s.slices.array
  pub entries_unused : ZeroFrom (4 * s.sizes.count) s.slices.entries
  pub index : Indexes s.slices.entries s.sizes.count s.slices.index
