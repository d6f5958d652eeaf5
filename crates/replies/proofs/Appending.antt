-- Bytes written into a slice: two writings in a row as one. Assumes nothing.
use mathlib.Core.Path.{◌≡◌, ap, ◌∙◌}
use mathlib.Core.List.{List, ◌++◌, append_assoc}
use Prim.Native.Nat.{ℕ}
use native.Mathlib.Omega.{arith}
use lib.ListN.{take, length-append}
use Rattle.replies.specs.declared.Reply.{Reply}
use Rattle.replies.specs.Replies.{Appends, reply_bytes}

-- one after the other
pub appends-then : {before middle after : List ℕ} {at mid end : ℕ} {x y : List ℕ} → Appends before at x middle mid → Appends middle mid y after end
    → Appends before at (x ++ y) after end
appends-then {before} {at = at} {x = x} {y = y} p q =
    record {
      ends = omega (arith, length-append x y);
      holds = q.holds ∙ ap (λ (l : List ℕ). l ++ y) p.holds ∙ append_assoc (take at before) x y;
    }

-- the bytes of a reply that is known
pub appends-reply : {before after : List ℕ} {at end : ℕ} {r t : Reply} → r ≡ t → Appends before at (reply_bytes t) after end
    → Appends before at (reply_bytes r) after end
appends-reply e p = rw e p
