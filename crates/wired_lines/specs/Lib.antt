pub mod ToEvery
