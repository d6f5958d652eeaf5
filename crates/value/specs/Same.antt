-- When two stored values are the same: equal kind and payload (01, 'Values and keys'). Assumes nothing.
use Rattle.std.specs.Prelude.{Bool, ◌&&◌, eqb}
use Rattle.value.specs.declared.Words.{Words}
use Rattle.value.specs.Encoding.{words}

unfoldable pub same : Words → Words → Bool
same a b = eqb a.kind b.kind && eqb a.payload b.payload

abbrev pub nil : Words
nil = words 0 0

abbrev pub is_nil : Words → Bool
is_nil v = same v nil
