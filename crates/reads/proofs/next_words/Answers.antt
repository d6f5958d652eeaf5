-- `reads::next_words` meets its contract: what is refused, then the key's canonical form; Nil starts. Assumes nothing.
use Rattle.std.proofs.Common.{sym, ap, ◌∙◌, rules}
use Rattle.std.specs.Prelude.{Err}
use Rattle.store.specs.Store.{seen}
use Rattle.reads.proofs.Keys.{next_start}
use Rattle.reads.proofs.Walking.{next-of, next-nil-key, next-nan-key, next-answers}
use Rattle.reads.proofs.next_words.Goals as goal

pub returns-in-Ok : goal.returns-in-Ok
returns-in-Ok c =
    let key = sym c.canonical_key.ensures ∙ c.in-Ok.is in
    let n = c.next_key.ensures in
    next-answers _ _ c.in_ok-accept_key.ensures.0 c.in_ok-accept_key.ensures.1 n.0 c.next_key.result n.1 (λ S. next-of _ _ _ key ∙ n.2 S)

pub returns-in-Err-KeyIsNil : goal.returns-in-Err-KeyIsNil
returns-in-Err-KeyIsNil c =
    let key = sym c.canonical_key.ensures ∙ c.in-Err-KeyIsNil.is ∙ ap Err c.in-Err-KeyIsNil.field-0-is in
    let s = seen c.args.view.now in
    next-answers s _ c.in_ok-accept_key.ensures.0 c.in_ok-accept_key.ensures.1 _ c.next_pair.result c.next_pair.ensures (λ S. next-nil-key _ _ key ∙ next_start s)

pub returns-in-Err : goal.returns-in-Err
returns-in-Err c = (
  c.in_ok-accept_key.ensures.0,
  c.in_ok-accept_key.ensures.1,
  λ S. next-nan-key _ _ _ (sym c.canonical_key.ensures ∙ c.in-Err.is) (search rules),
)
