-- `reads::get_words` meets its contract: what is refused, then the key's canonical form. Assumes nothing.
use mathlib.Core.Path.{sym, ◌∙◌}
use Rattle.model.proofs.Next.{get_key}
use Rattle.model.proofs.Meaning.{get-no-key}
use Rattle.reads.proofs.get_words.Goals as goal

pub returns-in_default : goal.returns-in_default
returns-in_default c = (
  c.in_ok-accept_key.ensures.0,
  c.in_ok-accept_key.ensures.1,
  λ S. sym (get-no-key _ _ _ (sym c.canonical_key.ensures ∙ c.in_default.is)),
)

pub returns : goal.returns
returns c = (
  c.in_ok-accept_key.ensures.0,
  c.in_ok-accept_key.ensures.1,
  λ S. c.get_key.ensures S ∙ sym (get_key _ _ _ (sym c.canonical_key.ensures ∙ c.in-Ok.is)),
)
