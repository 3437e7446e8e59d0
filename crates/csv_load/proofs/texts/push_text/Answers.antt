use Rattle.std.proofs.Common.{◌≡◌, ◌∙◌, ◌+◌, ◌++◌, ◌∷◌, [], ap, arith, length, List, ℕ}
use Rattle.std.specs.Prelude.{string_bytes}
use Rattle.std.proofs.lemmas.Str.{IsUtf8-string_bytes}
use Rattle.csv_load.proofs.Cutting.{cut-push, text-push}
use Rattle.csv_load.proofs.texts.push_text.Goals as goal

pub returns-clause-cut : goal.returns-clause-cut
returns-clause-cut c =
    let items : c.push.new.self.items ≡ c.args.ends.now.items ++ (c.len.result + length c.args.text.now) ∷ []
    = rw c.unwrap.ensures at c.push.ensures.items
    ∙ ap (λ (xs : List ℕ). xs ++ (c.len.result + length c.args.text.now) ∷ []) c.reserve.ensures.items in
    let bytes : string_bytes c.push_str.new.self ≡ string_bytes c.args.bytes.now ++ c.args.text.now
    = c.in_ok-push_str.ensures.bytes in
    let end : (c.len.result + length c.args.text.now) ≡ length (string_bytes c.args.bytes.now) + length c.args.text.now
    = omega (arith, c.len.ensures) in
    rw (items, bytes) (cut-push c.args.ends.now.items (string_bytes c.args.bytes.now) c.args.text.now
    (c.len.result + length c.args.text.now) c.requires.cut (IsUtf8-string_bytes c.args.bytes.now) c.utf8.text end)

pub returns-clause-ok : goal.returns-clause-ok
returns-clause-ok c =
    let items : c.push.new.self.items ≡ c.args.ends.now.items ++ (c.len.result + length c.args.text.now) ∷ []
    = rw c.unwrap.ensures at c.push.ensures.items
    ∙ ap (λ (xs : List ℕ). xs ++ (c.len.result + length c.args.text.now) ∷ []) c.reserve.ensures.items in
    let bytes : string_bytes c.push_str.new.self ≡ string_bytes c.args.bytes.now ++ c.args.text.now
    = c.in_ok-push_str.ensures.bytes in
    let end : (c.len.result + length c.args.text.now) ≡ length (string_bytes c.args.bytes.now) + length c.args.text.now
    = omega (arith, c.len.ensures) in
    rw (items, bytes) (text-push c.args.ends.now.items (string_bytes c.args.bytes.now) c.args.text.now
    (c.len.result + length c.args.text.now) c.requires.cut end)
