-- What a word that was read as another kind is not. Assumes nothing.
use mathlib.Core.Path.{◌≡◌, refl}
use native.Mathlib.Omega.{arith}
use mathlib.Core.Bool.{cond, ◌||◌}
use Prim.Native.Nat.{ℕ}
use lib.Dec.{eqb}
use denote.Enum.Declared.{tag_of}
use borrow.Author.Tests.{ne_eqb}
use Rattle.parity.specs.Record.{kind_of, head_kind}
use Rattle.parity.specs.declared.Form.{Form}
use Rattle.parity.specs.declared.Form.TheVariants.{First, Second, Third}
use Rattle.reading.specs.declared.words.Word.{Word}
use Rattle.reading.specs.declared.words.Word.TheVariants.{Head, Open, Bit, Split, End, Faulty}
use Rattle.reading.specs.Read.{Reads}
use Rattle.reading.specs.contracts.words.Word.{the_type}

-- the place of a kind's variant among those of `Word`
abbrev pub variant : ℕ → ℕ
variant k = cond (eqb k 1 || eqb k 4 || eqb k 5) 0 (cond (eqb k 2) 1 (cond (eqb k 3) 2 (cond (eqb k 6) 3 (cond (eqb k 15) 4 5))))

read_variant : (w : ℕ) (r : Word) → Reads w r → tag_of the_type r ≡ variant (kind_of w)
read_variant w (Head First x) K = rw K.kind
read_variant w (Head Second x) K = rw K.kind
read_variant w (Head Third x) K = rw K.kind
read_variant w (Open x) K = rw K.kind
read_variant w (Bit x) K = rw K.kind
read_variant w (Split x) K = rw K.kind
read_variant w (End x) K = rw K.kind
read_variant w Faulty K =
    rw (ne_eqb (kind_of w) 1 (K.not_head First), ne_eqb (kind_of w) 4 (K.not_head Second), ne_eqb (kind_of w) 5 (K.not_head Third), ne_eqb (kind_of w) 2 K.not_open, ne_eqb (kind_of w) 3 K.not_bit, ne_eqb (kind_of w) 6 K.not_split, ne_eqb (kind_of w) 15 K.not_end)

-- a word read as a variant that is not that of kind k
other_kind : (w : ℕ) (r : Word) (k : ℕ) → Reads w r → (tag_of the_type r ≡ variant k → ⊥) → kind_of w ≡ k → ⊥
other_kind w r k K n e = n (rw e at (read_variant w r K))

-- the variants by their places
head_tag : (r : Word) → ((f : Form) (x : ℕ) → r ≡ Head f x → ⊥) → tag_of the_type r ≡ 0 → ⊥
head_tag (Head f x) n q = n f x refl
head_tag r n q = omega arith

open_tag : (r : Word) → ((x : ℕ) → r ≡ Open x → ⊥) → tag_of the_type r ≡ 1 → ⊥
open_tag (Open x) n q = n x refl
open_tag r n q = omega arith

bit_tag : (r : Word) → ((x : ℕ) → r ≡ Bit x → ⊥) → tag_of the_type r ≡ 2 → ⊥
bit_tag (Bit x) n q = n x refl
bit_tag r n q = omega arith

split_tag : (r : Word) → ((x : ℕ) → r ≡ Split x → ⊥) → tag_of the_type r ≡ 3 → ⊥
split_tag (Split x) n q = n x refl
split_tag r n q = omega arith

end_tag : (r : Word) → ((x : ℕ) → r ≡ End x → ⊥) → tag_of the_type r ≡ 4 → ⊥
end_tag (End x) n q = n x refl
end_tag r n q = omega arith

pub other_head : (w : ℕ) (r : Word) → Reads w r → ((f : Form) (x : ℕ) → r ≡ Head f x → ⊥) → (f : Form) → kind_of w ≡ head_kind f → ⊥
other_head w r K n First = other_kind w r 1 K (head_tag r n)
other_head w r K n Second = other_kind w r 4 K (head_tag r n)
other_head w r K n Third = other_kind w r 5 K (head_tag r n)

pub other_open : (w : ℕ) (r : Word) → Reads w r → ((x : ℕ) → r ≡ Open x → ⊥) → kind_of w ≡ 2 → ⊥
other_open w r K n = other_kind w r 2 K (open_tag r n)

pub other_bit : (w : ℕ) (r : Word) → Reads w r → ((x : ℕ) → r ≡ Bit x → ⊥) → kind_of w ≡ 3 → ⊥
other_bit w r K n = other_kind w r 3 K (bit_tag r n)

pub other_split : (w : ℕ) (r : Word) → Reads w r → ((x : ℕ) → r ≡ Split x → ⊥) → kind_of w ≡ 6 → ⊥
other_split w r K n = other_kind w r 6 K (split_tag r n)

pub other_end : (w : ℕ) (r : Word) → Reads w r → ((x : ℕ) → r ≡ End x → ⊥) → kind_of w ≡ 15 → ⊥
other_end w r K n = other_kind w r 15 K (end_tag r n)
