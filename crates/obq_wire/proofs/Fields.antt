-- Numbers, byte strings, lists and references are read as they are spelled.
use Rattle.std.proofs.Common.{◌≡◌, ℕ, ◌^◌, ◌<◌, ◌≤◌, Bool, true, false, cond, ltb, List, [], ◌∷◌, ◌++◌, length, take, drop, Some, None, Ok, Err, refl, sym, ap, subst, ◌∙◌, append_assoc, arith}
use Rattle.std.specs.Prelude.{⊤}
use Rattle.std.specs.Int.{Width, w16, w32, w64, byte_len, from_be_bytes, to_be_bytes}
use Rattle.std.proofs.lemmas.Bool.{ltb-false, ltb-true, le-ltb, lt-ltb}
use Rattle.std.proofs.lemmas.List.{take_at, drop_at, take-append-drop, length-append, length-take}
use Rattle.std.proofs.lemmas.Nat.{be_bytes_2, be_bytes_4, be_bytes_8, from_be_bytes-to_be_bytes_2, from_be_bytes-to_be_bytes_4, from_be_bytes-to_be_bytes_8}
use Rattle.obq_wire.specs.Spelling.{string, u16, u32, u64}
use Rattle.obq_wire.specs.Reading.{Reader, byte_at, number_at, string_at, below, in_range}
use Rattle.obq_wire.proofs.Exact.{IsBytes, IsBytes-drop, IsBytes-take, IsBytes-rest, bind_ok, guard_ok, ok_is, Takes, Takes-then, Exact, range_takes, range_again}

-- ---- numbers

pub exact_byte : Exact byte_at (λ n. n ∷ []) (λ _. ⊤)
exact_byte = record { takes = took; again = λ x rest fits. refl }
  where
    took : (bytes : List ℕ) (x : ℕ) (rest : List ℕ) → IsBytes bytes → byte_at bytes ≡ Ok (x, rest) → Takes bytes (x ∷ []) rest × ⊤
    took [] x rest fits e = absurd cc
    took (b ∷ bytes) x rest fits e =
        subst (λ (z : ℕ × List ℕ). Takes (b ∷ bytes) (z.0 ∷ []) z.1 × ⊤) (ok_is (b, bytes) (x, rest) e)
        (record { parts = refl; rest_fits = IsBytes-rest b bytes fits }, tt)

record IsWide (w : Width) (limit : ℕ) : Type 0 where
  pub len : (n : ℕ) → length (to_be_bytes w n) ≡ byte_len w
  pub back : (bytes : List ℕ) → length bytes ≡ byte_len w → IsBytes bytes → to_be_bytes w (from_be_bytes w bytes) ≡ bytes
  pub again : (n : ℕ) → n < limit → from_be_bytes w (to_be_bytes w n) ≡ n
  pub below : (bytes : List ℕ) → IsBytes bytes → from_be_bytes w bytes < limit

wide16 : IsWide w16 (2 ^ 16)
wide16 = record {
  len = λ n. refl;
  back = λ bytes len fits. be_bytes_2 bytes _ len fits refl;
  again = λ n lt. from_be_bytes-to_be_bytes_2 n lt;
  below = λ bytes fits. omega (arith, fits 0, fits 1);
}

wide32 : IsWide w32 (2 ^ 32)
wide32 = record {
  len = λ n. refl;
  back = λ bytes len fits. be_bytes_4 bytes _ len fits refl;
  again = λ n lt. from_be_bytes-to_be_bytes_4 n lt;
  below = λ bytes fits. omega (arith, fits 0, fits 1, fits 2, fits 3);
}

wide64 : IsWide w64 (2 ^ 64)
wide64 = record {
  len = λ n. refl;
  back = λ bytes len fits. be_bytes_8 bytes _ len fits refl;
  again = λ n lt. from_be_bytes-to_be_bytes_8 n lt;
  below = λ bytes fits. omega (arith, fits 0, fits 1, fits 2, fits 3, fits 4, fits 5, fits 6, fits 7);
}

module _ (w : Width) (limit : ℕ) (wide : IsWide w limit) where
  number_takes : (bytes : List ℕ) (n : ℕ) (rest : List ℕ) → IsBytes bytes → number_at w bytes ≡ Ok (n, rest) → Takes bytes (to_be_bytes w n) rest × (n < limit)
  number_takes bytes n rest fits e =
      let g = guard_ok {A = ℕ × List ℕ} (ltb (length bytes) (byte_len w)) (length bytes) (Ok (from_be_bytes w (take (byte_len w) bytes), drop (byte_len w) bytes)) (n, rest) e in
      let i = ok_is (from_be_bytes w (take (byte_len w) bytes), drop (byte_len w) bytes) (n, rest) g.1 in
      let long : byte_len w ≤ length bytes = ltb-false _ _ g.0 in
      let front : to_be_bytes w (from_be_bytes w (take (byte_len w) bytes)) ≡ take (byte_len w) bytes = wide.back (take (byte_len w) bytes) (omega (arith, length-take (byte_len w) bytes)) (IsBytes-take (byte_len w) bytes fits) in
      subst (λ (z : ℕ × List ℕ). Takes bytes (to_be_bytes w z.0) z.1 × (z.0 < limit)) i
      (record { parts = rw front (sym (take-append-drop (byte_len w) bytes)); rest_fits = IsBytes-drop (byte_len w) bytes fits }, wide.below (take (byte_len w) bytes) (IsBytes-take (byte_len w) bytes fits))

  number_again : (n : ℕ) (rest : List ℕ) → n < limit → number_at w (to_be_bytes w n ++ rest) ≡ Ok (n, rest)
  number_again n rest lt =
      let len = wide.len n in
      let long : ltb (length (to_be_bytes w n ++ rest)) (byte_len w) ≡ false = le-ltb _ _ (omega (arith, length-append (to_be_bytes w n) rest)) in
      rw (long, take_at (to_be_bytes w n) rest (byte_len w) len, drop_at (to_be_bytes w n) rest (byte_len w) len, wide.again n lt) refl

  exact_number : Exact (number_at w) (λ n. to_be_bytes w n) (λ n. n < limit)
  exact_number = record { takes = number_takes; again = number_again }

pub exact_u16 : Exact (number_at w16) u16 (λ n. n < 2 ^ 16)
unfolding u16
exact_u16 = exact_number w16 (2 ^ 16) wide16

pub exact_u32 : Exact (number_at w32) u32 (λ n. n < 2 ^ 32)
unfolding u32
exact_u32 = exact_number w32 (2 ^ 32) wide32

pub exact_u64 : Exact (number_at w64) u64 (λ n. n < 2 ^ 64)
unfolding u64
exact_u64 = exact_number w64 (2 ^ 64) wide64

below_is : (bound n m : ℕ) → below bound n ≡ Some m → (n ≡ m) × (m < bound)
below_is bound n m e = below_by (ltb n bound) refl e
  where
    below_by : (b : Bool) → ltb n bound ≡ b → cond b (Some n) None ≡ Some m → (n ≡ m) × (m < bound)
    below_by true lt e = (cc, subst (λ (k : ℕ). k < bound) (let i : n ≡ m = cc in i) (ltb-true n bound lt))
    below_by false lt e = absurd cc

module _ {r : Reader ℕ} {s : ℕ → List ℕ} {F : ℕ → Type 0} (first : Exact r s F) (bound : ℕ) where
  pub exact_below : Exact (in_range r (below bound)) s (λ n. (n < bound) × F n)
  exact_below = record {
    takes = λ bytes x rest fits e.
        let t = range_takes first (below bound) bytes x rest fits e in
        let b = below_is bound t.0 x t.1 in
        subst (λ (n : ℕ). Takes bytes (s n) rest × ((n < bound) × F n)) b.0 (t.2, (rw b.0 b.1, t.3));
    again = λ x rest fits. range_again first (below bound) x x rest fits.1 (rw (lt-ltb x bound fits.0) refl);
  }

-- ---- byte strings

module _ (limit : ℕ) (small : limit < 2 ^ 32) where
  string_takes : (bytes text rest : List ℕ) → IsBytes bytes → string_at limit bytes ≡ Ok (text, rest) → Takes bytes (string text) rest × (length text ≤ limit)
  unfolding string_at
  string_takes bytes text rest fits e =
      let b = bind_ok (number_at w32 bytes) (λ n. cond (ltb limit n.0) (Err (length bytes)) (cond (ltb (length n.1) n.0) (Err (length bytes)) (Ok (take n.0 n.1, drop n.0 n.1)))) (text, rest) e in
      let n = b.0 in
      let t = exact_u32.takes bytes n.0 n.1 fits b.1 in
      let h = guard_ok {A = List ℕ × List ℕ} (ltb limit n.0) (length bytes) (cond (ltb (length n.1) n.0) (Err (length bytes)) (Ok (take n.0 n.1, drop n.0 n.1))) (text, rest) b.2 in
      let g = guard_ok {A = List ℕ × List ℕ} (ltb (length n.1) n.0) (length bytes) (Ok (take n.0 n.1, drop n.0 n.1)) (text, rest) h.1 in
      let at_most : n.0 ≤ limit = ltb-false _ _ h.0 in
      let long : n.0 ≤ length n.1 = ltb-false _ _ g.0 in
      let len : length (take n.0 n.1) ≡ n.0 = omega (arith, length-take n.0 n.1) in
      let second : Takes n.1 (take n.0 n.1) (drop n.0 n.1) = record { parts = sym (take-append-drop n.0 n.1); rest_fits = IsBytes-drop n.0 n.1 t.0.rest_fits } in
      let both : Takes bytes (u32 n.0 ++ take n.0 n.1) (drop n.0 n.1) = Takes-then t.0 second in
      let whole : Takes bytes (string (take n.0 n.1)) (drop n.0 n.1) = subst (λ (k : ℕ). Takes bytes (u32 k ++ take n.0 n.1) (drop n.0 n.1)) (sym len) both in
      subst (λ (p : List ℕ × List ℕ). Takes bytes (string p.0) p.1 × (length p.0 ≤ limit)) (ok_is (take n.0 n.1, drop n.0 n.1) (text, rest) g.1) (whole, omega (arith, len))

  string_again : (text rest : List ℕ) → length text ≤ limit → string_at limit (string text ++ rest) ≡ Ok (text, rest)
  unfolding string_at
  string_again text rest le =
      let at_most : ltb limit (length text) ≡ false = le-ltb _ _ le in
      let long : ltb (length (text ++ rest)) (length text) ≡ false = le-ltb _ _ (omega (arith, length-append text rest)) in
      let grouped : string text ++ rest ≡ u32 (length text) ++ (text ++ rest) = append_assoc (u32 (length text)) text rest in
      ap (string_at limit) grouped ∙ rw (exact_u32.again (length text) (text ++ rest) (omega arith), at_most, long, take_at text rest (length text) refl, drop_at text rest (length text) refl) refl

  pub exact_string : Exact (string_at limit) string (λ t. length t ≤ limit)
  exact_string = record { takes = string_takes; again = string_again }
