-- A request leaves nothing open on a sound store: its promise determines the reply, the record and every word. Assumes nothing.
use mathlib.Core.Path.{◌≡◌, sym, ◌∙◌}
use Rattle.store.specs.Store.{Store}
use Rattle.store.specs.Written.{Sound}
use Rattle.store.proofs.Sound.{sound-table}
use Rattle.store.proofs.Unique.{unique}
use Rattle.records.specs.declared.Request.{Request}
use Rattle.records.specs.Requests.{ValuesPassed}
use Rattle.replies.specs.declared.Reply.{Reply}
use Rattle.answers.specs.Answers.{Answers}

pub answer-unique : {s a a' : Store} {q : Request} {r r' : Reply} → Sound s → ValuesPassed q → Answers s q a r → Answers s q a' r' → (a ≡ a') × (r ≡ r')
answer-unique {a = a} {a' = a'} S P f g =
    let F = f.kept S in
    let G = g.kept S in
    let tables : F.sound.table ≡ G.sound.table =
    sound-table a F.sound ∙ f.table S ∙ sym (g.table S) ∙ sym (sound-table a' G.sound)
    in
    (unique a a' F.sound G.sound (F.lengths ∙ sym G.lengths) tables, f.reply S P ∙ sym (g.reply S P))
