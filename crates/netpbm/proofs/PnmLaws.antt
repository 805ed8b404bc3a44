-- A text denotes at most one picture, and no whole text begins another.
use Rattle.std.proofs.Common.{◌≡◌, ℕ, ◌<◌, List, [], ◌∷◌, ◌++◌, length, arith, refl, sym, ap, ◌∙◌, append_assoc, subst, length-append}
use Rattle.std.proofs.lemmas.Option.{some_pair_parts}
use Rattle.netpbm.specs.declared.format.Header.{Header}
use Rattle.netpbm.specs.Picture.{Picture, SamePicture}
use Rattle.netpbm.specs.Pnm.{Begins, Denotes, IsWhole, Shows, raster_length}
use Rattle.netpbm.proofs.HeaderLaws.{header_at-begins}

pub same_begins : (text : List ℕ) (h g : Header) (r s : List ℕ) → Begins text h r → Begins text g s → (h ≡ g) × (r ≡ s)
same_begins text h g r s a b =
    some_pair_parts h g r s (sym (header_at-begins text h r a) ∙ header_at-begins text g s b)

pub same_from_shows : (h : Header) (raster : List ℕ) (p q : Picture) → Shows h raster p → Shows h raster q → SamePicture p q
same_from_shows h raster p q a b = record {
  width = a.width ∙ sym b.width;
  height = a.height ∙ sym b.height;
  channels = a.channels ∙ sym b.channels;
  greatest = a.greatest ∙ sym b.greatest;
  samples = λ x y k place. a.samples x y k place ∙ sym (b.samples x y k (record {
    column = subst (λ (n : ℕ). x < n) (a.width ∙ sym b.width) place.column;
    row = subst (λ (n : ℕ). y < n) (a.height ∙ sym b.height) place.row;
    channel = subst (λ (n : ℕ). k < n) (a.channels ∙ sym b.channels) place.channel;
  }));
}

-- a text denotes at most one picture
pub one_picture : (text : List ℕ) (p q : Picture) → Denotes text p → Denotes text q → SamePicture p q
one_picture text p q a b =
    let same = same_begins text a.header b.header a.raster b.raster a.begins b.begins in
    let moved : Shows a.header a.raster q = subst (λ (h : Header). Shows h a.raster q) (sym same.0) (subst (λ (r : List ℕ). Shows b.header r q) (sym same.1) b.shows) in
    same_from_shows a.header a.raster p q a.shows moved

begins_longer : (front more : List ℕ) (h : Header) (raster : List ℕ) → Begins front h raster → Begins (front ++ more) h (raster ++ more)
begins_longer front more h raster b = record {
  head = b.head;
  text_is = ap (λ l. l ++ more) b.text_is ∙ append_assoc b.head raster more;
  is_header = b.is_header;
}

-- no whole text begins another
pub no_prefix : (front more : List ℕ) → IsWhole front → IsWhole (front ++ more) → more ≡ []
no_prefix front more a b =
    let same = same_begins (front ++ more) a.1.header b.1.header (a.1.raster ++ more) b.1.raster (begins_longer front more a.1.header a.1.raster a.1.begins) b.1.begins in
    let size : length b.1.raster ≡ length a.1.raster = b.1.shows.size ∙ (ap (λ (h : Header). raster_length h.format h.width h.height h.maxval) (sym same.0) ∙ sym a.1.shows.size) in
    let longer : length (a.1.raster ++ more) ≡ length b.1.raster = ap length same.1 in
    empty more (omega (arith, length-append a.1.raster more))
  where
    empty : (l : List ℕ) → length l ≡ 0 → l ≡ []
    empty [] e = refl
    empty (x ∷ xs) e = absurd (let h : length (x ∷ xs) ≡ 0 = e in omega arith)
