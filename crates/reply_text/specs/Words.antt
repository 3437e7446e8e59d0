-- Refusals and replies of the code, by what they say.
use Rattle.std.specs.Prelude.{ℕ, List, [], ◌∷◌, ◌<◌, ◌≤◌, length, decimal, ⊤}
use Rattle.cube_defs.specs.Text.{Text}
use Rattle.warehouse.specs.declared.refused.Refused.{Refused}
use Rattle.warehouse.specs.declared.refused.Refused.TheVariants as files
use Rattle.reply_text.specs.declared.refusals.Detail.{Detail}
use Rattle.reply_text.specs.declared.refusals.Detail.TheVariants as details
use Rattle.reply_text.specs.declared.refusals.RefusalReport.{RefusalReport}
use Rattle.reply_text.specs.declared.short.Reply.{Reply}
use Rattle.reply_text.specs.declared.short.Reply.TheVariants as replies

-- what a refusal says of its code
abbrev pub detail_texts : Detail → List Text
detail_texts details.Nothing = []
detail_texts (details.Number k) = decimal k ∷ []
detail_texts (details.Name name) = name.now ∷ []

abbrev pub texts_of : RefusalReport → List Text
texts_of words = words.code.now ∷ detail_texts words.detail

-- a name that stands in a reply is short
abbrev pub IsShortDetail : Detail → Type 0
IsShortDetail (details.Name name) = length name.now ≤ 32
IsShortDetail detail = ⊤

pub record IsShort (words : RefusalReport) : Type 0 where
  pub code : length words.code.now ≤ 14
  pub detail : IsShortDetail words.detail

-- a refusal that names one of so many dimensions, if it names one
abbrev pub IsDimension : Refused → ℕ → Type 0
IsDimension (files.ValuesFull dim) dims = dim < dims
IsDimension refused dims = ⊤

abbrev pub reply_bytes : Reply → List ℕ
reply_bytes (replies.Short reply) = reply
reply_bytes (replies.Long bytes) = bytes.items
