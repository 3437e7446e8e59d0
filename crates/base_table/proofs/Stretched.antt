-- Lists of one width that lie one after another, made longer or shorter in place.
use Rattle.std.proofs.Common.{◌≡◌, ℕ, zero, suc, ◌+◌, ◌-◌, ◌*◌, ◌<◌, ◌≤◌, List, [], ◌∷◌, ◌++◌, length, take, drop, set, refl, ap, ap₂, sym}
use Rattle.std.proofs.Common.{◌∙◌, subst, arith, append_assoc, length-append, length-drop, replicate}
use Rattle.std.proofs.lemmas.List.{append-nil, drop-drop, drop-take, drop_at, length-replicate, length-take-le, nil_from_length}
use Rattle.std.proofs.lemmas.List.{set-append_right, take-append-le, take-take, take_all, take_at}
use Rattle.std.proofs.lemmas.Nat.{mul-le, row_fits}
use Rattle.base_table.specs.Store.{longer_lines, shorter_lines}
use Rattle.base_table.proofs.Widths.{drop_paste, later, length_paste, take_paste}

next_line : (k n : ℕ) → n + k * n ≡ suc k * n
next_line k n = grind arith

more_line : (k n : ℕ) → k * n + n ≡ (k + 1) * n
more_line k n = grind arith

wide_line : (k n : ℕ) → k * n + k ≡ k * (n + 1)
wide_line k n = grind arith

one_more : (k : ℕ) → suc k ≡ k + 1
one_more k = omega arith

short_fits : (width first lines line : ℕ) → first ≤ width → line < lines → line * width + first ≤ lines * width
short_fits width first lines line le lt = omega (arith, row_fits line width lines width lt (omega arith))

module _ {A : Type 0} where
  -- one line more is looked at
  shorter_more : (width first k : ℕ) (cells : List A)
      → shorter_lines width first (suc k) cells ≡ shorter_lines width first k cells
      ++ take first (drop (k * width) cells)
  shorter_more width first zero cells =
      let none : 0 * width ≡ 0 = omega arith in
      append-nil (take first cells) ∙ ap (λ n. take first (drop n cells)) (sym none)
  shorter_more width first (suc k) cells =
      ap (λ l. take first cells ++ l) (shorter_more width first k (drop width cells))
      ∙ sym (append_assoc (take first cells) (shorter_lines width first k (drop width cells))
      (take first (drop (k * width) (drop width cells))))
      ∙ ap (λ l. (take first cells ++ shorter_lines width first k (drop width cells)) ++ take first l)
      (drop-drop (k * width) width cells ∙ ap (λ n. drop n cells) (next_line k width))

  -- the loop of `shorten`
  pub record AreShorter (width first lines : ℕ) (was cells : List A) (line : ℕ) : Type 0 where
    pub len : length cells ≡ lines * width
    pub front : take (line * first) cells ≡ shorter_lines width first line was
    pub back : drop (line * width) cells ≡ drop (line * width) was

  pub shorter_step : (width first lines : ℕ) (was cells after : List A) (line n : ℕ) → first ≤ width
      → AreShorter width first lines was cells line → line < lines → n ≡ first
      → after ≡ take (line * first) cells ++ take n (drop (line * width) cells) ++ drop (line * first + n) cells
      → AreShorter width first lines was after (line + 1)
  shorter_step width first lines was cells after line n le h lt same is =
      let from = line * width in
      let to = line * first in
      let below : to ≤ from = omega (arith, mul-le line first line width (omega arith) le) in
      let fits : from + first ≤ length cells = omega (arith, short_fits width first lines line le lt, h.len) in
      let put : after ≡ take to cells ++ take first (drop from cells) ++ drop (to + first) cells
      = is ∙ ap (λ n. take to cells ++ take n (drop from cells) ++ drop (to + n) cells) same in
      let behind : drop (from + first) after ≡ drop (from + first) was = ap (drop (from + first)) put
      ∙ drop_paste cells to from first below fits ∙ later from first cells was h.back in
      let next : from + first + (width - first) ≡ (line + 1) * width = omega (arith, more_line line width) in
      record {
        len = ap length put ∙ length_paste cells to from first below fits ∙ h.len;
        front =
            ap₂ (λ k l. take k l) (sym (more_line line first)) put ∙ take_paste cells to from first below fits
            ∙ ap₂ (λ l m. l ++ take first m) h.front h.back ∙ sym (shorter_more width first line was)
            ∙ ap (λ k. shorter_lines width first k was) (one_more line);
        back = subst (λ k. drop k after ≡ drop k was) next (later (from + first) (width - first) after was behind);
      }

  pub shorter_begin : (width first lines : ℕ) (was : List A) → length was ≡ lines * width
      → AreShorter width first lines was was 0
  shorter_begin width first lines was h =
      let none : 0 * first ≡ 0 = omega arith in
      record { len = h; front = ap (λ k. take k was) none; back = refl }

  -- the loop of `lengthen`
  pub record AreLonger (width : ℕ) (x : A) (lines : ℕ) (was cells : List A) (line : ℕ) : Type 0 where
    pub len : length cells ≡ lines * (width + 1)
    pub front : take (line * width) cells ≡ take (line * width) was
    pub back : (j : ℕ) → line + j ≡ lines
        → drop (line * (width + 1)) cells ≡ longer_lines width x j (drop (line * width) was)

  pub longer_begin : (width : ℕ) (x : A) (lines : ℕ) (was cells : List A) → length was ≡ lines * width
      → cells ≡ was ++ replicate lines x → AreLonger width x lines was cells lines
  longer_begin width x lines was cells h is =
      let len : length cells ≡ lines * (width + 1)
      = omega (
        arith,
        ap length is,
        length-append was (replicate lines x),
        length-replicate {A = A} lines x,
        h,
        wide_line lines width,
      ) in
      record {
        len = len;
        front = ap (take (lines * width)) is ∙ take_at was (replicate lines x) (lines * width) h
            ∙ sym (take_all (lines * width) was (omega (arith, h)));
        back = λ j e.
            let none : j ≡ 0 = omega arith in
            nil_from_length (drop (lines * (width + 1)) cells)
            (omega (arith, length-drop (lines * (width + 1)) cells, len))
            ∙ ap (λ k. longer_lines width x k (drop (lines * width) was)) (sym none);
      }

  put_after : (xs ys : List A) (at : ℕ) (x : A) → length xs ≡ at → 0 < length ys
      → set (xs ++ ys) at x ≡ xs ++ x ∷ drop 1 ys
  put_after xs [] at x h some = absurd (omega arith)
  put_after xs (y ∷ ys) at x h some =
      let none : at - at ≡ 0 = omega arith in
      set-append_right xs (y ∷ ys) at at x h (omega arith) ∙ ap (λ k. xs ++ set (y ∷ ys) k x) none

  pub longer_step : (width : ℕ) (x : A) (lines : ℕ) (was cells after : List A) (next line n at : ℕ) → next ≡ line + 1
      → AreLonger width x lines was cells next → line < lines → n ≡ width → at ≡ line * width + line + width
      → after ≡ set (take (line * width + line) cells ++ take n (drop (line * width) cells)
      ++ drop (line * width + line + n) cells) at x → AreLonger width x lines was after line
  longer_step width x lines was cells after next line n at behind g lt same place is =
      let h : AreLonger width x lines was cells (line + 1)
      = subst (λ k. AreLonger width x lines was cells k) behind g in
      let from = line * width in
      let to = line * width + line in
      let moved : List A = take width (drop from cells) in
      let fits : to + width + 1 ≤ length cells
      = omega (arith, h.len, row_fits line (width + 1) lines (width + 1) lt (omega arith), wide_line line width) in
      let long : length moved ≡ width
      = length-take-le width (drop from cells) (omega (arith, length-drop from cells, fits)) in
      let head : length (take to cells ++ moved) ≡ to + width
      = omega (arith, length-append (take to cells) moved, length-take-le to cells (omega arith), long) in
      let rest : List A = drop (to + width) cells in
      let put : after ≡ take to cells ++ moved ++ x ∷ drop 1 rest =
      is ∙ ap₂ (λ n k. set (take to cells ++ take n (drop from cells) ++ drop (to + n) cells) k x) same place
      ∙ put_after (take to cells ++ moved) rest (to + width) x head
      (omega (arith, length-drop (to + width) cells, fits)) in
      let fewer : take from cells ≡ take from was = sym (take-take from (from + width) cells (omega arith))
      ∙ ap (take from) (subst (λ k. take k cells ≡ take k was) (sym (more_line line width)) h.front)
      ∙ take-take from (from + width) was (omega arith) in
      let same_moved : moved ≡ take width (drop from was) = sym (drop-take from width cells)
      ∙ ap (drop from) (subst (λ k. take k cells ≡ take k was) (sym (more_line line width)) h.front)
      ∙ drop-take from width was in
      record {
        len = omega (
          arith,
          ap length put,
          length-append (take to cells ++ moved) (x ∷ drop 1 rest),
          head,
          length-drop 1 rest,
          length-drop (to + width) cells,
          fits,
          h.len,
        );
        front =
            ap (take from) put ∙ take-append-le from (take to cells ++ moved) (x ∷ drop 1 rest) (omega (arith, head))
            ∙ take-append-le from (take to cells) moved (omega (arith, length-take-le to cells (omega arith)))
            ∙ take-take from to cells (omega arith) ∙ fewer;
        back = λ j e. elim j as (λ j. line + j ≡ lines
            → drop (line * (width + 1)) after ≡ longer_lines width x j (drop from was)) [
              | zero ↦ λ e. absurd (omega arith)
              | suc j ↦ λ e.
                  let tail : drop 1 rest ≡ longer_lines width x j (drop width (drop from was)) =
                  drop-drop 1 (to + width) cells
                  ∙ ap (λ k. drop k cells) (omega (arith, wide_line (line + 1) width, more_line line width))
                  ∙ h.back j (omega arith)
                  ∙ ap (longer_lines width x j) (ap (λ k. drop k was) (sym (omega (arith, more_line line width)))
                  ∙ sym (drop-drop width from was)) in
                  ap₂ (λ k l. drop k l) (omega (arith, wide_line line width)) (put
                  ∙ append_assoc (take to cells) moved (x ∷ drop 1 rest))
                  ∙ drop_at (take to cells) (moved ++ x ∷ drop 1 rest) to (length-take-le to cells (omega arith))
                  ∙ sym (append_assoc moved (x ∷ []) (drop 1 rest))
                  ∙ ap₂ (λ l m. (l ++ x ∷ []) ++ m) same_moved tail
            ] e;
      }

  pub longer_end : (width : ℕ) (x : A) (lines : ℕ) (was cells : List A) → AreLonger width x lines was cells 0
      → cells ≡ longer_lines width x lines was
  longer_end width x lines was cells h =
      let none : 0 * (width + 1) ≡ 0 = omega arith in
      let none2 : 0 * width ≡ 0 = omega arith in
      ap (λ k. drop k cells) (sym none) ∙ h.back lines (omega arith)
      ∙ ap (λ k. longer_lines width x lines (drop k was)) none2
