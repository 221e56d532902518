-- The words that a run shows, and that they can be read.
use Rattle.std.proofs.Common.{◌≡◌, ℕ, ◌+◌, ◌<◌, ◌++◌, true, List, [], ◌∷◌, take, length, get_or, ap, sym, ◌∙◌, subst}
use Rattle.std.proofs.lemmas.List.{take_more, get_or-map, length-map}
use Rattle.std.proofs.lemmas.List.Elements.{All-more}
use Rattle.flat.specs.State.{Setting}
use Rattle.flat.specs.Reads.{is_readable}
use Rattle.command_line.specs.declared.request.Word.{Word as Asked}
use Rattle.render.specs.Reports.{AllReadable}
use Rattle.requests.specs.Runs.{addresses}

-- the addresses of one word more
pub addresses-more : (words : List Asked) (i : ℕ) (d : Asked) (xs : List ℕ) → i < length words → xs ≡ take i (addresses words) → xs ++ (get_or words i d).addr ∷ [] ≡ take (i + 1) (addresses words)
addresses-more words i d xs h e =
    let inside : i < length (addresses words) = rw (length-map words (λ (w : Asked). w.addr)) h in
    ap (λ l. l ++ (get_or words i d).addr ∷ []) e ∙ ap (λ a. take i (addresses words) ++ a ∷ []) (sym (get_or-map (λ (w : Asked). w.addr) words i d d.addr h)) ∙ sym (take_more (addresses words) i d.addr inside)

-- one word more that can be read
pub readable-more : (s : Setting) (words : List Asked) (i : ℕ) (d : Asked) → i < length words → AllReadable s (take i (addresses words)) → is_readable s (get_or words i d).addr ≡ true → AllReadable s (take (i + 1) (addresses words))
readable-more s words i d h before here =
    let inside : i < length (addresses words) = rw (length-map words (λ (w : Asked). w.addr)) h in
    All-more (λ a. is_readable s a ≡ true) (addresses words) i d.addr inside before (rw (get_or-map (λ (w : Asked). w.addr) words i d d.addr h) here)

-- what can be read stays so while the setting does
pub readable-stays : (s t : Setting) (words : List ℕ) → t ≡ s → AllReadable s words → AllReadable t words
readable-stays s t words same all = subst (λ (x : Setting). AllReadable x words) (sym same) all
