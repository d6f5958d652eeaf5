-- What a script sees of a set that is done, by get, for any values as keys: what the set answers is what get gave before; at every key that
-- is this one get gives the value, and elsewhere what it gave before (01, 'Calls'). Assumes nothing.
use Rattle.std.specs.Prelude.{◌≡◌, false, Ok}
use Rattle.value.specs.declared.Words.{Words}
use Rattle.value.specs.Same.{same}
use Rattle.key.specs.Canonical.{canonical_key}
use Rattle.model.specs.Table.{Table, get_of}
use Rattle.model.specs.Calls.{Outcome}

-- k is the canonical form of the key that was set to v
pub record Means (t : Table) (key k v : Words) (o : Outcome) : Type 0 where
  pub previously : o.previous ≡ get_of t key
  pub here : (j : Words) → canonical_key j ≡ Ok k → get_of o.table j ≡ v
  pub elsewhere : (j i : Words) → canonical_key j ≡ Ok i → same k i ≡ false → get_of o.table j ≡ get_of t j
