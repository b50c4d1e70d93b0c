-- 9 ManyCells
use Rattle.std.specs.Prelude.{pos, List, [], ◌∷◌, Some, None}
use Rattle.cc_base.specs.declared.numbers.NumberType.TheVariants as numeric
use Rattle.cc_faults.specs.declared.fault.TypeKind.TheVariants as kind
use Rattle.cc_faults.specs.declared.plain.Item.TheVariants as item
use Rattle.cc_faults.specs.declared.plain.Length.TheVariants as some_length
use Rattle.cc_faults.specs.declared.plain.TypeName.TheVariants as type_name
use Rattle.types_tests.specs.Seen.{Row, at, fault_at, x}

-- struct s { int a[257]; }; f(struct s x) { } main() { }
abbrev text0 : Row
text0 = (
  record {
    names = 5;
    formats = [];
    items = (item.Structure (x 1 8 1) (record {
      of = (type_name.Number numeric.Int);
      name = (x 1 16 2);
      length =
          (Some (some_length.Number (at 1 18) (pos 257)));
    } ∷ []) ∷ item.Function (type_name.Number numeric.Int) (x 1 27 3) (record {
      of =
          (type_name.Structure (x 1 36 1));
      name = (x 1 38 4);
    } ∷ []) [] ∷ item.Function (type_name.Number numeric.Int) (x 1 45 0) [] [] ∷ []);
  },
  Some
      (fault_at 1 27 kind.ManyCells),
)

-- struct s { int a[256]; }; f(struct s x) { } main() { }
abbrev text1 : Row
text1 = (
  record {
    names = 5;
    formats = [];
    items = (item.Structure (x 1 8 1) (record {
      of = (type_name.Number numeric.Int);
      name = (x 1 16 2);
      length =
          (Some (some_length.Number (at 1 18) (pos 256)));
    } ∷ []) ∷ item.Function (type_name.Number numeric.Int) (x 1 27 3) (record {
      of =
          (type_name.Structure (x 1 36 1));
      name = (x 1 38 4);
    } ∷ []) [] ∷ item.Function (type_name.Number numeric.Int) (x 1 45 0) [] [] ∷ []);
  },
  None,
)

-- struct s { int a[256]; }; f(struct s x) { } g(struct s x, int y) { } main() { }
abbrev text2 : Row
text2 = (
  record {
    names = 7;
    formats = [];
    items = (item.Structure (x 1 8 1) (record {
      of = (type_name.Number numeric.Int);
      name = (x 1 16 2);
      length =
          (Some (some_length.Number (at 1 18) (pos 256)));
    } ∷ []) ∷ item.Function (type_name.Number numeric.Int) (x 1 27 3) (record {
      of =
          (type_name.Structure (x 1 36 1));
      name = (x 1 38 4);
    } ∷ []) [] ∷ item.Function (type_name.Number numeric.Int) (x 1 45 5) (record {
      of =
          (type_name.Structure (x 1 54 1));
      name = (x 1 56 4);
    } ∷ record { of = (type_name.Number numeric.Int); name = (x 1 63 6) } ∷ []) [] ∷ item.Function
        (type_name.Number numeric.Int) (x 1 70 0) [] [] ∷ []);
  },
  Some (fault_at 1 45 kind.ManyCells),
)

-- struct s { int a[129]; }; process spec p(struct s a, struct s b); process body p(a, b) { } main() { }
abbrev text3 : Row
text3 = (
  record {
    names = 5;
    formats = [];
    items = (item.Structure (x 1 8 1) (record {
      of = (type_name.Number numeric.Int);
      name = (x 1 16 2);
      length =
          (Some (some_length.Number (at 1 18) (pos 129)));
    } ∷ []) ∷ item.Specification (x 1 40 3) ((type_name.Structure (x 1 49 1)) ∷ (type_name.Structure
        (x 1 61 1)) ∷ []) [] ∷ item.Body (x 1 80 3) ((x 1 82 2) ∷ (x 1 85 4) ∷ []) [] ∷ item.Function (type_name.Number numeric.Int) (x 1 92 0) [] [] ∷
        []);
  },
  Some (fault_at 1 40 kind.ManyCells),
)

-- struct s { int a[129]; }; process spec p() { trans void t(struct s a, struct s b); trans struct s u(struct s a); }; process body p() { } main() { }
abbrev text4 : Row
text4 = (
  record {
    names = 6;
    formats = [];
    items = (item.Structure (x 1 8 1) (record {
      of = (type_name.Number numeric.Int);
      name = (x 1 16 2);
      length =
          (Some (some_length.Number (at 1 18) (pos 129)));
    } ∷ []) ∷ item.Specification (x 1 40 3) [] (record {
      result = (Some (type_name.Void (at 1 52)));
      name = (x 1 57 4);
      parameters = ((type_name.Structure (x 1 66 1)) ∷ (type_name.Structure (x 1 78 1)) ∷ []);
    } ∷ record {
      result = (Some
          (type_name.Structure (x 1 97 1)));
      name = (x 1 99 5);
      parameters = ((type_name.Structure (x 1 108 1)) ∷ []);
    } ∷ []) ∷ item.Body (x 1 130 3) [] []
        ∷ item.Function (type_name.Number numeric.Int) (x 1 138 0) [] [] ∷ []);
  },
  Some (fault_at 1 57 kind.ManyCells),
)

abbrev pub rows : List Row
rows = text0 ∷ text1 ∷ text2 ∷ text3 ∷ text4 ∷ []
