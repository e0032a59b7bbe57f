-- The lines of the demonstration are read from their text.
use Rattle.std.proofs.Common.{refl, sym, lit<, lit≤}
use Rattle.std.proofs.lemmas.Fmt.{decimal_digit}
use Rattle.scheme_demo.specs.Demonstration.{demo_text}
use Rattle.scheme_demo.specs.Law.{DemoLinesAreScript}

-- the lines of the text and their words compute; a number is one digit
pub demo_lines_are_script : DemoLinesAreScript
unfolding demo_text
demo_lines_are_script = record {
  lines = record {
    asked = (
      record { number = refl; act = refl },
      (
        record {
          number = refl;
          act = (
            refl,
            (
              record { digits = sym (decimal_digit 0 (lit< tt)); limit = lit< tt },
              (
                record { digits = sym (decimal_digit 1 (lit< tt)); limit = lit< tt },
                (record { digits = sym (decimal_digit 4 (lit< tt)); limit = lit< tt }, tt),
              ),
            ),
          );
        },
        (
          record { number = refl; act = refl },
          (
            record {
              number = refl;
              act = (
                refl,
                (
                  record { digits = sym (decimal_digit 2 (lit< tt)); limit = lit< tt },
                  (record { digits = sym (decimal_digit 3 (lit< tt)); limit = lit< tt }, tt),
                ),
              );
            },
            (
              record { number = refl; act = refl },
              (
                record { number = refl; act = (refl, (record { digits = sym (decimal_digit 0 (lit< tt)); limit = lit< tt }, tt)) },
                (record { number = refl; act = refl }, tt),
              ),
            ),
          ),
        ),
      ),
    );
    few_lines = lit≤ tt;
    bytes = (refl, (refl, (refl, (refl, (refl, (refl, (refl, tt)))))));
    few_products = lit≤ tt;
  };
}
