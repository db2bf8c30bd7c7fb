pub mod StuckLaws
